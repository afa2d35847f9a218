-- The noted calls of a socket.
use Rattle.std.specs.{Duration.as_nanos, IoError.error_kind, Prelude.{is_ok, length, take}, Result.result_map_both}
use Rattle.std.specs.Result.{result_ok}
use Rattle.bac_links.specs.{declared.history.CallNote.CallNote, SystemCall.{AtOnce, Bind, Elapsed, Limit, Receive}}
use Rattle.bac_links.specs.SystemCall.{SendTo, SystemCall}
use Rattle.bac_links.specs.declared.history.CallNote.TheVariants as note

-- The call, with its answer, that a note describes.
abbrev pub call_of : CallNote → SystemCall
call_of (note.Bind at) = Bind at
call_of (note.Limit limit done) = Limit (as_nanos limit) (is_ok done.now)
call_of (note.AtOnce on done) = AtOnce on (is_ok done.now)
call_of (note.SendTo octets to sent) = SendTo octets.now to (result_ok sent.now)
call_of (note.Receive room came) =
    Receive (length room.now) (result_map_both (λ (taken, from). (take taken room.now, from)) error_kind came.now)
call_of (note.Elapsed passed) = Elapsed (result_ok passed.now)
