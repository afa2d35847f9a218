-- Reader and writers are new before the words are run, and each is then given its text of the report.
use Rattle.bac_tools.proofs.program.run_program.Goals as goal

pub returns : goal.returns
returns g c = record {
  unhelped = c.run_called-ran.new.writer;
  report = c.run_called-ran.result.report;
  called = rw (c.new-reader.ensures, c.new-writer.ensures) at c.run_called-ran.ensures;
  help = c.told-report.ensures.help;
  reported = c.told-report.ensures.report;
  fault = rw c.new-errors.ensures at c.told-report.ensures.fault;
}
