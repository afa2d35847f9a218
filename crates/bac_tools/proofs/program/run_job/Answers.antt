-- A job was run over the socket that it needs, or the report says that there is none. A script needs none.
use Rattle.std.proofs.Common.{arith, Err, None, Ok, refl, Some, ◌∙◌, ◌≡◌}
use Rattle.bac_tools.specs.{asked_by, Job, Trace, declared.program.Binding.Binding}
use Rattle.bac_tools.proofs.program.run_job.Goals as goal

-- A job that asks for no socket is a script.
is_script : (job : Job) → ((binding : Binding) → asked_by job ≡ Some binding → ⊥) → job ≡ Trace
is_script Trace none = refl
is_script _ none = absurd (none _ refl)

pub returns-in_default : goal.returns-in_default
returns-in_default g c =
    let is = is_script c.args.job (λ binding is. c.in_default.not-Some binding (c.asked_by.ensures ∙ is)) in
    rw (c.only.ensures, is) (record {
      opened = None;
      given = refl;
      ends = (
        record {
          answer = c.trace.result;
          script = c.trace.ensures.script;
          write_fault = c.trace.ensures.write_failed;
          reported = c.from.ensures;
        },
        refl,
      );
      unasked = refl;
    })

pub returns-in-Ok : goal.returns-in-Ok
returns-in-Ok g c = record {
  opened = Some (Ok c.in-Ok.link);
  given = rw (← c.in-Some.ensures) c.in-Ok.ensures.gives;
  ends = grind (arith, c.run_over.ensures);
  unasked = tt;
}

pub returns-in-Err : goal.returns-in-Err
returns-in-Err g c = record {
  opened = Some (Err c.in-Err.none);
  given = rw (← c.in-Some.ensures) c.in-Err.ensures.gives;
  ends = grind (arith, c.in-Some.ensures, c.from-in-Err.ensures);
  unasked = tt;
}
