use Rattle.std.proofs.Common.{rules, List, subst, sym}
use Rattle.std.specs.List.Sorted.{IsPermutation}
use Rattle.std.proofs.lemmas.List.Sorted.{IsNonDecreasingBy-from_sort_by_key}
use Rattle.dc_tables.specs.declared.rows.Entry.{Entry}
use Rattle.dc_build.specs.RowsOf.{IsFrameOf}
use Rattle.dc_build.proofs.assemble.frame_of.Goals as goal

pub returns : goal.returns
returns c =
    let P : List Entry → Type 0 = λ l. IsPermutation l c.sort_unstable_by_key.new.self.items in
    let Q : List Entry → Type 0 = λ l. IsFrameOf c.args.entries.now c.args.output l in
    subst Q (sym c.new.ensures) (record {
      same = subst P c.in_ok-items.ensures c.sort_unstable_by_key.ensures.permutation;
      ascend = IsNonDecreasingBy-from_sort_by_key (λ e. e.offset) c.sort_unstable_by_key.new.self.items c.sort_unstable_by_key.ensures.sorted (λ a r q k. search rules);
    })
