use Rattle.std.proofs.Common.{rules, ◌≡◌, ◌+◌, ◌<◌, length, subst, sym, ap, ◌∙◌, arith, true, false}
use Rattle.dc_hub.specs.Closing.{is_by, receipts_of, receipt_at, DifferAt}
use Rattle.dc_hub.proofs.Unlike.{same-item, passed-other, agree-on, ended, other, left_over}
use Rattle.dc_hub.proofs.closing.first_unlike.Goals as goal

pub loop-i-preserved-then-not-makes : goal.loop-i-preserved-then-not-makes
loop-i-preserved-then-not-makes c =
    let v = c.loop-i.invariant in
    let by : is_by c.args.actor.now c.index-entries-i.result.event ≡ false = search rules in
    (v.0 ∙ sym (passed-other c.args.actor.now c.args.entries.now c.loop-i.i c.index-entries-i.result c.loop-i-test.true c.index-entries-i.is by), v.1)

pub returns-then-next-receipts : goal.returns-then-next-receipts
returns-then-next-receipts c =
    let by : is_by c.args.actor.now c.index-entries-i.result.event ≡ true = search rules in
    ended c.args.actor.now c.args.receipts.now c.args.entries.now c.loop-i.next c.loop-i.i c.index-entries-i.result c.if-next-receipts.true c.loop-i-test.true c.index-entries-i.is c.loop-i.invariant.0 by

pub returns-then-not-is_of : goal.returns-then-not-is_of
returns-then-not-is_of c =
    let by : is_by c.args.actor.now c.index-entries-i.result.event ≡ true = search rules in
    let inside : c.loop-i.next < length c.args.receipts.now = search rules in
    let first = c.index-receipts-next-then-not-is_of.result in
    let entry_is = same-item c.args.entries.now c.loop-i.i c.index-entries-i.result c.index-entries-i-in-loop-i.result c.loop-i-test.true c.index-entries-i.is c.index-entries-i-in-loop-i.is in
    let receipt_is = same-item c.args.receipts.now c.loop-i.next c.index-receipts-next.result first inside c.index-receipts-next.is c.index-receipts-next-then-not-is_of.is in
    let differs = c.is_of.ensures.no c.if-not-is_of.true in
    subst (λ x. DifferAt c.args.receipts.now (receipts_of c.args.actor.now c.args.entries.now) x.index) c.index-receipts-next-then-not-is_of.is
    (other c.args.actor.now c.args.receipts.now c.args.entries.now c.loop-i.next c.loop-i.i c.index-entries-i.result first inside c.index-receipts-next-then-not-is_of.is c.loop-i-test.true c.index-entries-i.is c.loop-i.invariant.0 by
    (λ same. differs (receipt_is ∙ same ∙ ap (receipt_at (c.loop-i.i + 1)) entry_is)))

pub loop-i-preserved : goal.loop-i-preserved
loop-i-preserved c =
    let by : is_by c.args.actor.now c.index-entries-i.result.event ≡ true = search rules in
    let inside : c.loop-i.next < length c.args.receipts.now = search rules in
    let entry_is = same-item c.args.entries.now c.loop-i.i c.index-entries-i-in-loop-i.result c.index-entries-i.result c.loop-i-test.true c.index-entries-i-in-loop-i.is c.index-entries-i.is in
    let same = c.is_of.ensures.yes c.if-not-is_of.false in (
      agree-on c.args.actor.now c.args.receipts.now c.args.entries.now c.loop-i.next c.loop-i.i c.index-entries-i.result c.index-receipts-next.result inside c.index-receipts-next.is c.loop-i-test.true c.index-entries-i.is c.loop-i.invariant.0 by
          (same ∙ ap (receipt_at (c.loop-i.i + 1)) entry_is),
      omega (arith, inside),
    )

pub returns-then-next-receipts-2 : goal.returns-then-next-receipts-2
returns-then-next-receipts-2 c =
    let first = c.index-receipts-next-then-next-receipts-2.result in
    subst (λ x. DifferAt c.args.receipts.now (receipts_of c.args.actor.now c.args.entries.now) x.index) c.index-receipts-next-then-next-receipts-2.is
    (left_over c.args.actor.now c.args.receipts.now c.args.entries.now c.loop-i.next c.loop-i.i first c.if-next-receipts-2.true c.index-receipts-next-then-next-receipts-2.is c.loop-i-test.false c.loop-i.invariant.0)
