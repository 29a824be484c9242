use Rattle.dc_in_time.proofs.Keeping.{in_time}
use Rattle.dc_in_time.proofs.laws.accepted_keep_time.Goals as goal

pub returns : goal.returns
returns c = λ claims accepted.
    in_time c.args.tables.now c.sources_keep_ticks.ensures c.claims_keep_time.ensures claims (c.accepted_certificates_keep_their_claims.ensures claims accepted)
