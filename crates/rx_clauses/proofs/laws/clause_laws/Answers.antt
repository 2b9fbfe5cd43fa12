use Rattle.rx_clauses.proofs.BodiesLaw.{body-read, body-written, one-body}
use Rattle.rx_clauses.proofs.laws.clause_laws.Goals as goal

pub returns : goal.returns
returns c = record {
  reader = λ tokens found rest. (body-read tokens found rest, body-written tokens found rest);
  one = one-body;
}
