use Rattle.std.proofs.Common.{List, [], ◌∷◌, sym, subst}
use Rattle.dc_cert.specs.Bounds.{numbers_of}
use Rattle.dc_check.proofs.Whole.{claims_hold}
use Rattle.dc_event.specs.Claims.{ClaimsHold}
use Rattle.dc_time.specs.Timed.{events}
use Rattle.dc_time.specs.Sources.{KeepsSourcesInTime}
use Rattle.dc_time.specs.Claims.{ClaimsHoldInTime}
use Rattle.dc_time.specs.lemmas.Arriving.{sources-keep_ticks}
use Rattle.dc_time.specs.lemmas.Claiming.{claims-keep_time}
use Rattle.dc_chain.specs.Concentrators.{Concentrator, RunsInTime, KeepsClaims}
use Rattle.dc_chain.specs.Chains.{Stage, IsChain}
use Rattle.dc_chain.specs.Laws.{IsCertified, IsCertifiedChain}
use Rattle.dc_chain.specs.lemmas.Feeding.{sources-follow}
use Rattle.dc_chain.proofs.laws.chains_keep_claims.Goals as goal

keeps : (c : Concentrator) → RunsInTime c → IsCertified c → KeepsSourcesInTime c.rows c.us c.run → KeepsClaims c
keeps c r is sources =
    let ticks = sources-keep_ticks c.rows r.valid c.us c.clock r.paced r.fits c.run r.timing.placed sources in
    let held : ClaimsHold c.rows (numbers_of is.claims).ages (events c.run) = claims_hold c.rows r.valid is.claims is.accepted (events c.run) (record { numbers = r.numbers; sources = ticks; budgets = is.budgets }) in
    let P = λ (ages : List Rattle.std.proofs.Common.ℕ). ClaimsHoldInTime c.rows c.us ages c.clock c.run in
    subst P (sym is.ages) (claims-keep_time c.rows r.valid c.us c.clock r.paced r.fits (numbers_of is.claims).ages c.run r.timing r.numbers held)

-- the first of a chain runs in time, and keeps its claims
first_runs : (c : Concentrator) (stages : List Stage) → IsChain c stages → RunsInTime c
first_runs c [] h = h.0
first_runs c (l ∷ stages) h = h.0

first_keeps : (c : Concentrator) (stages : List Stage) → IsChain c stages → KeepsClaims c
first_keeps c [] h = h.1
first_keeps c (l ∷ stages) h = h.1

chain : (c : Concentrator) (stages : List Stage) → IsCertifiedChain c stages → IsChain c stages
chain c [] h = (h.0, keeps c h.0 h.1 h.2)
chain c (l ∷ stages) h =
    let before = chain l.from stages h.5 in
    let sources = sources-follow l.from c l.link (first_runs l.from stages before) (first_keeps l.from stages before) h.0 h.4 h.3 h.2 in
    (h.0, keeps c h.0 h.1 sources, h.4, before)

pub returns : goal.returns
returns c = chain
