-- The words that the program runs, from the words of its call.
use Rattle.std.specs.Prelude.{ℕ, Bool, ◌||◌, List, [], ◌∷◌, ◌++◌, Option, Some, None, option_and_then}
use Rattle.std.specs.{Prelude.{codes, if◌then◌else◌}, Option.option_map_or, Path.path_file_name, Str.bytes_eq}

abbrev pub is_tool : List ℕ → Bool
is_tool name = bytes_eq name (codes "bacrp") || bytes_eq name (codes "bacwp") || bytes_eq name (codes "bacwi")
    || bytes_eq name (codes "bacdev") || bytes_eq name (codes "bacrun") || bytes_eq name (codes "bactrace")

-- The tool that the last part of the program's own name names, if it names one.
abbrev pub tool_named : List ℕ → Option (List ℕ)
tool_named program = option_and_then (λ name. if is_tool name then Some name else None) (path_file_name program)

-- The words that are run. The first is the program's own name. If that names a tool, the first is empty and the tool is
-- the second, so that help and usage begin with the tool.
abbrev pub words_called : List (List ℕ) → List (List ℕ)
words_called [] = []
words_called (program ∷ rest) = option_map_or (λ tool. [] ∷ tool ∷ []) (tool_named program) (program ∷ []) ++ rest
