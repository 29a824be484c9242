use Rattle.std.proofs.Common.{◌≡◌, rules, codes, IfSome, subst, sym}
use Rattle.dc_answer.specs.Judging.{Says}
use Rattle.dc_answer.specs.declared.exit.Outcome.TheVariants.{Refused as WasRefused}
use Rattle.dc_run_bench.proofs.Benching.{hub_judged}
use Rattle.dc_run_bench.specs.Bench.{AnswersRun}
use Rattle.dc_run_bench.proofs.driven.refuse_hub.Goals as goal

pub returns : goal.returns
returns g c =
    let same : c.append.new.text.items ≡ codes "refused hub" = search rules in
    record { answer = subst (λ l. IfSome g.L.Charter.certified (λ x. Says (AnswersRun x c.args.ticks c.args.marks) l WasRefused)) (sym c.tell.ensures) (hub_judged g.L.Charter.certified c.args.ticks c.args.marks _ same c.requires) }
