-- What is answered to concentrators that are accepted.
use Rattle.std.proofs.Common.{◌≡◌, ℕ, List, ◌++◌, Result, Ok, Err, IfOk, length, map, refl, sym, ap, ◌∙◌, subst, inl, inr}
use Rattle.dc_answer.specs.declared.exit.Exit.{Exit}
use Rattle.dc_answer.specs.declared.exit.Exit.TheVariants.{Done}
use Rattle.dc_answer.specs.declared.judge.Unjudged.{Unjudged}
use Rattle.dc_system.specs.Judged.{IsNetworkFault, NetworkKeepsClaims, NetworkKeepsTime, Stands}
use Rattle.dc_system.specs.declared.judging.NetworkFault.{NetworkFault}
use Rattle.dc_system_text.specs.System.{ConcentratorRow, SystemRows}
use Rattle.dc_ways.specs.Members.{MemberRows}
use Rattle.dc_ways.specs.declared.connection.Connection.{Connection}
use Rattle.dc_run_network.specs.Answer.{AnswersMembers, EndsKept, IsLines, Saying, TellsFault}
use Rattle.dc_run_network.specs.Lines.{accepted_text, fed, way_lines}
use Rattle.dc_run_network.specs.Links.{connection_of, connections_in}
use Rattle.dc_run_network.specs.lemmas.Feeds.{accepted-spelled}
use Rattle.dc_system_text.specs.declared.parts.LinkText.{LinkText}

-- what was made of the lists of a system are its connections
pub connections-is : (s : SystemRows) (members : List MemberRows) (cs : List ConcentratorRow) (links : List LinkText) (made given : List Connection) → cs ≡ s.concentrators → links ≡ s.links
    → made ≡ given → given ≡ map (connection_of cs members) links → made ≡ connections_in s members
connections-is s members cs links made given same alike is from =
    is ∙ from ∙ ap (λ z. map (connection_of z members) links) same ∙ ap (λ z. map (connection_of s.concentrators members) z) alike

-- the lines that were made
pub lines-told : {E : Type 0} (kept : Result (Unit {0}) E) (s : SystemRows) (members : List MemberRows) (cs : List ConcentratorRow) (links : ℕ) (rows : List (List ℕ)) (page : List ℕ) → cs ≡ s.concentrators → links ≡ length s.links
    → IfOk kept (λ _. page ≡ accepted_text (length cs) links ++ fed (way_lines cs members rows (length cs))) → IfOk kept (λ _. IsLines s members rows page)
lines-told (Ok x) s members cs links rows page same count told =
    let T : List ConcentratorRow → Type 0 = λ z. page ≡ accepted_text (length z) links ++ fed (way_lines z members rows (length z)) in
    let U : ℕ → Type 0 = λ n. page ≡ accepted_text (length s.concentrators) n ++ fed (way_lines s.concentrators members rows (length s.concentrators)) in
    accepted-spelled s.concentrators (length s.links) members rows page (subst U count (subst T same told))
lines-told (Err e) s members cs links rows page same count told = tt

module _ (s : SystemRows) (members : List MemberRows) (connections : List Connection) (made : connections ≡ connections_in s members) where
  -- what is told of a network that stands
  pub accepted-answer : {E : Type 0} (Says : Saying) (kept : Result (Unit {0}) E) (result : Result Exit Unjudged) (page : List ℕ) (rows ways : List (List ℕ)) → EndsKept kept Done result → rows ≡ ways
      → IfOk kept (λ _. Says s members rows page) → Stands members connections ways → NetworkKeepsClaims members connections ways → NetworkKeepsTime members connections ways
      → IfOk result (AnswersMembers Says s members page)
  accepted-answer Says (Ok x) result page rows ways ends alike told stands claims time =
      let P : List Connection → Type 0 = λ z. Stands members z ways in
      let Q : List Connection → Type 0 = λ z. NetworkKeepsClaims members z ways in
      let R : List Connection → Type 0 = λ z. NetworkKeepsTime members z ways in
      let V : List (List ℕ) → Type 0 = λ z. Says s members z page in
      subst (λ r. IfOk r (AnswersMembers Says s members page)) (sym ends)
      (inl (refl, record { ways = ways; stands = subst P made stands; claims = subst Q made claims; time = subst R made time; says = subst V alike told }))
  accepted-answer Says (Err e) result page rows ways ends alike told stands claims time = subst (λ r. IfOk r (AnswersMembers Says s members page)) (sym ends) tt

  -- the line of its first fault
  pub refused-answer : (Says : Saying) (result : Result Exit Unjudged) (page : List ℕ) (fault : NetworkFault) → IsNetworkFault members connections fault → TellsFault members connections page fault result → IfOk result (AnswersMembers Says s members page)
  refused-answer Says (Ok exit) page fault is tells =
      let P : List Connection → Type 0 = λ z. IsNetworkFault members z fault in
      let Q : List Connection → Type 0 = λ z. TellsFault members z page fault (Ok exit) in
      let (told, ends, whole) = subst Q made tells in
      inr (record { fault = fault; first = subst P made is; told = told; ends = ends; whole = whole })
  refused-answer Says (Err why) page fault is tells = tt
