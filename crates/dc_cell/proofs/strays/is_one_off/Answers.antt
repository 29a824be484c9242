use Rattle.std.proofs.Common.{◌≡◌, ◌<◌, ◌==◌, ◌-◌, true, false, length, drop, slice_index, sym, ap, ◌∙◌, arith, rules, add-one, length-drop, take_all}
use Rattle.dc_cell.proofs.OneOff.{one_off-more, one_off-here, one_off-short, one_off-end}
use Rattle.dc_cell.proofs.strays.is_one_off.Goals as goal

pub returns-then-place-key : goal.returns-then-place-key
returns-then-place-key c =
    let there : c.loop-place.place < length c.args.word.now = search rules in
    let here : c.loop-place.place ≡ length c.args.key.now = search rules in
    ap (λ n. n == 1) (sym (length-drop c.loop-place.place c.args.word.now)) ∙ sym (one_off-short c.args.word.now c.args.key.now c.loop-place.place there here) ∙ c.loop-place.invariant.goes

pub returns-then-word-place : goal.returns-then-word-place
returns-then-word-place c =
    let there : c.loop-place.place < length c.args.word.now = search rules in
    let here : c.loop-place.place < length c.args.key.now = search rules in
    let other : (slice_index c.args.word.now c.loop-place.place == slice_index c.args.key.now c.loop-place.place) ≡ false = search rules in
    let word = take_all (length c.args.word.now - c.loop-place.place) (drop c.loop-place.place c.args.word.now) (omega (arith, length-drop c.loop-place.place c.args.word.now)) in
    let key = take_all (length c.args.key.now - c.loop-place.place) (drop c.loop-place.place c.args.key.now) (omega (arith, length-drop c.loop-place.place c.args.key.now)) in
    (rw (word, key) at c.is_first_off.ensures) ∙ sym (one_off-here c.args.word.now c.args.key.now c.loop-place.place there here other) ∙ c.loop-place.invariant.goes

pub loop-place-preserved : goal.loop-place-preserved
loop-place-preserved c =
    let there : c.loop-place.place < length c.args.word.now = search rules in
    let here : c.loop-place.place < length c.args.key.now = search rules in
    let same : (slice_index c.args.word.now c.loop-place.place == slice_index c.args.key.now c.loop-place.place) ≡ true = search rules in
    record {
      within = omega arith;
      goes = rw add-one (sym (one_off-more c.args.word.now c.args.key.now c.loop-place.place there here same) ∙ c.loop-place.invariant.goes);
    }

pub returns : goal.returns
returns c =
    let end : c.loop-place.place ≡ length c.args.word.now = search rules in
    rw (sym end) (ap (λ n. n == 1) (sym (length-drop c.loop-place.place c.args.key.now)) ∙ sym (one_off-end c.args.word.now c.args.key.now c.loop-place.place end) ∙ c.loop-place.invariant.goes)
