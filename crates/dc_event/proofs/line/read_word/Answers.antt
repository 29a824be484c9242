use Rattle.std.proofs.Common.{arith, refl, sym}
use Rattle.dc_event.proofs.HexValues.{fits_64, much, reads_first, reads_fits, reads_next, word_read, word_unread}
use Rattle.dc_event.proofs.line.read_word.Goals as goal

pub overflow_mul-n : goal.overflow_mul-n
overflow_mul-n c = let h = fits_64 _ _ 0 c.loop-c.invariant.fits (omega arith) (omega arith) in omega (arith, h)

pub overflow_add-n : goal.overflow_add-n
overflow_add-n c =
    let h = fits_64 _ _ _ c.loop-c.invariant.fits (much _ c.value_of.ensures.small) (omega arith) in
    omega (arith, h, c.value_of.ensures.value)

pub loop-c-init : goal.loop-c-init
loop-c-init c = record {
  fits = omega arith;
  reads = reads_first c.args.text.now;
}

pub loop-c-preserved : goal.loop-c-preserved
loop-c-preserved c = rw c.value_of.ensures.value (record {
  fits = reads_fits _ _ _ c.loop-c.invariant.fits (much _ c.value_of.ensures.small) (omega arith);
  reads = reads_next _ _ _ _ _ c.loop-c-test.true refl c.value_of.ensures.small (omega arith) c.loop-c.invariant.reads;
})

pub returns-then-n-lt4294967296 : goal.returns-then-n-lt4294967296
returns-then-n-lt4294967296 c =
    sym (word_read c.args.text.now c.loop-c.n c.loop-c.c-index (omega arith) (omega arith) c.loop-c.invariant.reads c.if-n-lt4294967296.true)

pub returns-else-n-lt4294967296 : goal.returns-else-n-lt4294967296
returns-else-n-lt4294967296 c =
    sym (word_unread c.args.text.now c.loop-c.n c.loop-c.c-index (omega arith) (omega arith) c.loop-c.invariant.reads (omega arith))
