-- The command line of `bactool` as `clap` reads it: six tools, each with its words.
use Rattle.std.specs.{Prelude.{List, [], ◌∷◌, ◌++◌, codes}, List.fold}
use Rattle.clap.specs.Words.{App, Rule, new_app, new_rule, with_rule, with_subcommand}
use Rattle.clap_laws.specs.Commands.{number, needed, by_name, several, wanting}

abbrev pub target_rules : List Rule
target_rules = needed (number (codes "device-instance") 0 4194303)
    ∷ needed (number (codes "object-type") 0 1023)
    ∷ needed (number (codes "object-instance") 0 4194303)
    ∷ needed (number (codes "property") 0 4194303) ∷ []

abbrev pub mac_rule : Rule
mac_rule = needed (by_name (new_rule (codes "mac")))

abbrev pub port_rule : Rule
port_rule = by_name (number (codes "port") 0 65535)

abbrev pub timeout_rule : Rule
timeout_rule = by_name (number (codes "apdu-timeout") 1 60000)

abbrev pub retries_rule : Rule
retries_rule = by_name (number (codes "apdu-retries") 0 9)

abbrev pub bacrp : App
bacrp = fold with_rule (new_app (codes "bacrp")) (target_rules ++ number (codes "index") 0 4294967295
    ∷ mac_rule ∷ timeout_rule ∷ retries_rule ∷ port_rule ∷ [])

abbrev pub bacwp : App
bacwp = fold with_rule (new_app (codes "bacwp")) (target_rules ++ needed (number (codes "priority") 0 16)
    ∷ needed (new_rule (codes "index")) ∷ needed (several (new_rule (codes "tag value")))
    ∷ mac_rule ∷ timeout_rule ∷ retries_rule ∷ port_rule ∷ [])

abbrev pub bacwi : App
bacwi = fold with_rule (new_app (codes "bacwi")) (number (codes "min") 0 4194303
    ∷ number (codes "max") 0 4194303 ∷ mac_rule ∷ timeout_rule ∷ port_rule ∷ [])

-- A device. The greatest instance means every device, so it is not the instance of any device.
abbrev pub bacdev : App
bacdev = fold with_rule (new_app (codes "bacdev")) (needed (number (codes "device-instance") 0 4194302)
    ∷ port_rule ∷ by_name (number (codes "count") 1 65535) ∷ [])

-- Many requests over one socket: how many of them are open at most.
abbrev pub bacrun : App
bacrun = fold with_rule (new_app (codes "bacrun")) (timeout_rule ∷ retries_rule ∷ port_rule
    ∷ by_name (number (codes "window") 1 64) ∷ [])

abbrev pub bactrace : App
bactrace = new_app (codes "bactrace")

-- The program: one of the six tools is required. `help` before a tool's name asks for help.
abbrev pub bactool : App
bactool = with_subcommand (with_subcommand (with_subcommand (with_subcommand (with_subcommand
    (with_subcommand (wanting (new_app (codes "bactool"))) bacrp.top) bacwp.top) bacwi.top) bacdev.top) bacrun.top)
    bactrace.top
