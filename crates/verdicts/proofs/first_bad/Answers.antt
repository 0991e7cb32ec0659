-- The verdict is found by a search, whatever the code makes of what was found; the law says what it is over everything.
use Rattle.std.proofs.Common.{rules}
use Rattle.timing.proofs.FirstBad.{first_found}
use Rattle.verdicts.proofs.first_bad.Goals as goal

pub returns-in-Some-clause-over_all : goal.returns-in-Some-clause-over_all
returns-in-Some-clause-over_all c = λ b count found. first_found c.args.number b count c.args.found _ (search rules) found

pub returns-in-None-clause-over_all : goal.returns-in-None-clause-over_all
returns-in-None-clause-over_all c = λ b count found. first_found c.args.number b count c.args.found _ (search rules) found
