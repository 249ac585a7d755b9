-- `toured` meets its contract, one answer for each case.
use Rattle.host.proofs.toured.Goals as goal

pub returns-in-Ok : goal.returns-in-Ok
returns-in-Ok c = simp c.in-Ok.is

pub returns-in-Err : goal.returns-in-Err
returns-in-Err c = simp (c.number.ensures, c.in-Err.is)
