use Rattle.std.proofs.Common.{◌≡◌, [], ◌∷◌, ap, rules}
use Rattle.dc_answer.specs.lemmas.Plain.{order_one, plain}
use Rattle.dc_digest.proofs.Reporting.{any_told, digest_told, quiet_both}
use Rattle.dc_digest.proofs.check.run_check_digest.Goals as goal

pub returns : goal.returns
returns g c =
    let before = g.K.Sink.state c.args.sink.now in
    let after = g.K.Sink.state c.run.new.sink in
    let a = (g.T.Source.state c.args.tables.now).failed in
    let a' = (g.T.Source.state c.run.new.given.first.now).failed in
    let p = (g.T.Source.state c.tables-1.given.0).failed in
    let b = (g.C.Source.state c.args.certificate.now).failed in
    let b' = (g.C.Source.state c.run.new.given.rest.first.now).failed in
    let q = (g.C.Source.state c.certificate-1.given.0).failed in
    let same0 : c.tables-1.given.0 ≡ c.run.new.given.first.now = search rules in
    let same1 : c.certificate-1.given.0 ≡ c.run.new.given.rest.first.now = search rules in
    let n0 : p ≡ a' = ap (λ x. (g.T.Source.state x).failed) same0 in
    let n1 : q ≡ b' = ap (λ x. (g.C.Source.state x).failed) same1 in
    record {
      reports = λ rows text e f. digest_told before.contents after.contents a a' b b' p q before.failed after.failed c.run.result n0 n1 rows text (plain (c.run.ensures.reports (rows ∷ text ∷ []) (e, (f, tt))));
      reported = any_told before.contents after.contents a a' b b' p q before.failed after.failed c.run.result n0 n1 (plain c.run.ensures.reported);
      asks_tables = rw same0 (c.run.ensures.asks.0);
      asks_certificate = rw same1 (c.run.ensures.asks.1.0);
      order = rw same1 (order_one (g.T.Source.state c.args.tables.now).remaining (c.run.new.given.rest.first.now ≡ c.args.certificate.now) (λ rows e. c.run.ensures.order (rows ∷ []) (e, tt)));
      left = c.run.ensures.left;
      quiet = λ not. quiet_both a a' b b' p q before.failed after.failed n0 n1 (c.run.ensures.quiet not);
    }
