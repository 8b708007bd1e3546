-- The exit status of the process.
use Rattle.std.specs.Prelude.{ℕ}
use Rattle.gh_driver.specs.declared.status.Status.{Status}
use Rattle.gh_driver.specs.declared.status.Status.TheVariants as status

abbrev pub code_of : Status → ℕ
code_of status.Accepted = 0
code_of status.Ended = 0
code_of (status.Refused r) = 1
code_of status.Usage = 2
code_of status.OutOfSteps = 3
code_of (status.MainFailed stop) = 4
code_of (status.ReadFault i) = 5
code_of status.WriteFault = 5
code_of status.NoMemory = 6
