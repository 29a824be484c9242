-- Lines, each behind a line feed.
use Rattle.std.proofs.Common.{◌≡◌, ℕ, add-one, ◌+◌, List, [], ◌∷◌, ◌++◌, length, refl, sym, ap, ◌∙◌, append_assoc, append-nil}
use Rattle.dc_device.specs.Lines.{spelled}
use Rattle.dc_event.specs.ReplyText.{name_at}
use Rattle.dc_document.specs.Names.{text_of}
use Rattle.dc_system_text.specs.System.{ConcentratorRow}
use Rattle.dc_tables.specs.TableRows.{TableRows}
use Rattle.dc_ways.specs.Members.{MemberRows, rows_of, ways_in}
use Rattle.dc_run_network.specs.Lines.{accepted_lines, accepted_text, fed, label_lines, name_of_row, way_lines, way_text}

-- behind others
pub fed-append : (xs ys : List (List ℕ)) → fed (xs ++ ys) ≡ fed xs ++ fed ys
fed-append [] ys = refl
fed-append (x ∷ xs) ys = ap (λ l. 10 ∷ x ++ l) (fed-append xs ys) ∙ ap (λ l. 10 ∷ l) (sym (append_assoc x (fed xs) (fed ys)))

-- the last one has a line feed too
pub fed-spelled : (x : List ℕ) (xs : List (List ℕ)) → (x ++ fed xs) ++ 10 ∷ [] ≡ spelled (x ∷ xs)
fed-spelled x [] = ap (λ l. l ++ 10 ∷ []) (append-nil x)
fed-spelled x (y ∷ ys) = append_assoc x (10 ∷ y ++ fed ys) (10 ∷ []) ∙ ap (λ l. x ++ 10 ∷ l) (fed-spelled y ys)

-- the line of one label more
pub label-more : (name : List ℕ) (t : TableRows) (ways : ℕ → ℕ) (n : ℕ) (before page next : List ℕ) → page ≡ before ++ fed (label_lines name t ways n)
    → next ≡ page ++ 10 ∷ way_text (text_of name) (name_at t.names.labels n) (ways n) → next ≡ before ++ fed (label_lines name t ways (n + 1))
label-more name t ways n before page next is step =
    let line = way_text (text_of name) (name_at t.names.labels n) (ways n) in
    let one : fed (line ∷ []) ≡ 10 ∷ line = ap (λ l. 10 ∷ l) (append-nil line) in
    step ∙ ap (λ l. l ++ 10 ∷ line) is ∙ append_assoc before (fed (label_lines name t ways n)) (10 ∷ line)
    ∙ ap (λ l. before ++ l) (ap (λ l. fed (label_lines name t ways n) ++ l) (sym one) ∙ sym (fed-append (label_lines name t ways n) (line ∷ [])))
    ∙ ap (λ k. before ++ fed (label_lines name t ways k)) (sym (add-one n))

-- the lines of one concentrator more
pub ways-more : (cs : List ConcentratorRow) (members : List MemberRows) (rows : List (List ℕ)) (n : ℕ) (before page next : List ℕ) → page ≡ before ++ fed (way_lines cs members rows n)
    → next ≡ page ++ fed (label_lines (name_of_row cs n) (rows_of members n) (ways_in rows n) (length (rows_of members n).labels)) → next ≡ before ++ fed (way_lines cs members rows (n + 1))
ways-more cs members rows n before page next is step =
    let lines = label_lines (name_of_row cs n) (rows_of members n) (ways_in rows n) (length (rows_of members n).labels) in
    step ∙ ap (λ l. l ++ fed lines) is ∙ append_assoc before (fed (way_lines cs members rows n)) (fed lines)
    ∙ ap (λ l. before ++ l) (sym (fed-append (way_lines cs members rows n) lines))
    ∙ ap (λ k. before ++ fed (way_lines cs members rows k)) (sym (add-one n))

-- all of them
pub accepted-spelled : (cs : List ConcentratorRow) (links : ℕ) (members : List MemberRows) (rows : List (List ℕ)) (page : List ℕ) → page ≡ accepted_text (length cs) links ++ fed (way_lines cs members rows (length cs))
    → page ++ 10 ∷ [] ≡ spelled (accepted_lines cs links members rows)
accepted-spelled cs links members rows page is = ap (λ l. l ++ 10 ∷ []) is ∙ fed-spelled (accepted_text (length cs) links) (way_lines cs members rows (length cs))
