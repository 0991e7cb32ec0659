use Rattle.std.proofs.Common.{rules}
use Rattle.records.proofs.node.with_copy.Goals as goal

pub returns-in-Some : goal.returns-in-Some
returns-in-Some c = rw c.in-Some.is (search rules)
