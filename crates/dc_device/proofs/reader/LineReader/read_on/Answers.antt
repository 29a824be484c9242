use Rattle.std.proofs.Common.{ap, sym, ◌∙◌, ◌∷◌, ◌++◌, [], refl, ◌+◌, length}
use Rattle.dc_device.specs.Lines.{Held}
use Rattle.dc_device.specs.lemmas.LineLemmas.{read_more, push_more, room_more, NoFeed-push}
use Rattle.dc_device.proofs.reader.LineReader.read_on.Goals as goal

pub loop-byte-preserved : goal.loop-byte-preserved
loop-byte-preserved c =
    let (front, whole, line, plain, room) = c.loop-byte.invariant in
    let byte = c.in_ok-byte.byte in
    let left = ap (λ (h : Held). h.room) c.self.view_is ∙ c.in_ok-byte.ensures.room in (
      front ++ byte ∷ [],
      read_more _ front _ _ byte whole (c.in_ok-byte.ensures.bytes ∙ ap (λ (h : Held). byte ∷ h.bytes) (sym c.self.view_is)),
      push_more _ _ front _ byte c.push.ensures.items line,
      NoFeed-push front byte plain c.if-byte-eq10.false,
      room_more front byte c.self.inside.room _ _ (ap (λ n. length front + n) left ∙ room) c.if-self-eq0.false refl,
    )
