-- The stores at the starts of edges, and then those at the marked nodes.
use Rattle.removal.proofs.Whole.EndpointLaws.{endpoints_made}
use Rattle.removal.proofs.numbers.number_endpoints.Goals as goal

pub returns : goal.returns
returns c =
    let a = c.args in
    endpoints_made a.n a.starts.now a.marked.now a.t.now c.store_at.new.t c.store_at-2.new.t c.requires.0 c.requires.1 c.store_at.ensures c.store_at-2.ensures
