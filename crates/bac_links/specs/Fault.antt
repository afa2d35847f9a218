-- The faults of the link and of the writer; and their messages.
use Rattle.std.specs.Prelude.{Bool, codes, Err, false, List, Result, true, ℕ}
use Rattle.bac_links.specs.declared.fault.ToolFault.{ToolFault, TheVariants.{ReceiveFailed, SendFailed, TurnsSpent}}
use Rattle.bac_links.specs.declared.fault.ToolFault.TheVariants.{WriteFailed}

-- The fault is one of the link, which has failed.
abbrev pub is_link_fault : {A : Type 0} → Result A ToolFault → Bool
is_link_fault (Err SendFailed) = true
is_link_fault (Err ReceiveFailed) = true
is_link_fault _ = false

-- The fault is one of the writer, which has failed.
abbrev pub is_write_fault : {A : Type 0} → Result A ToolFault → Bool
is_write_fault (Err WriteFailed) = true
is_write_fault _ = false

-- The message of the fault.
abbrev pub tool_fault_text : ToolFault → List ℕ
tool_fault_text SendFailed = codes "sending failed"
tool_fault_text ReceiveFailed = codes "receiving failed"
tool_fault_text TurnsSpent = codes "turns spent"
tool_fault_text WriteFailed = codes "writing failed"

-- The message if no link is available.
abbrev pub link_fault_text : List ℕ
link_fault_text = codes "bind failed"
