-- Lists of tables are within their limits.
use Rattle.std.proofs.Common.{◌≡◌, ℕ, ◌≤◌, ◌&&◌, Bool, true, false, leb, List, [], ◌∷◌, Option, Some, None, Ok, Err, length, refl, subst, arith}
use Rattle.std.proofs.lemmas.Bool.{leb-true}
use Rattle.toml.specs.Data.{Data, Items, no_items, Members, get_member}
use Rattle.toml.specs.View.{items_view}
use Rattle.toml.specs.declared.value.Value.{Value}
use Rattle.dc_document.specs.declared.fault.TableRule.TheVariants.{CountOutOfRange}
use Rattle.dc_toml.specs.Faults.{Reading, ◌>>=◌, wanted}
use Rattle.dc_toml.specs.Keys.{array_at, counted, if_there, items_len, tables_at, optional_at}
use Rattle.dc_toml.specs.declared.place.TablePlace.{TablePlace}

pub count-of : (vs : List Value) → length vs ≡ items_len (items_view vs)
count-of [] = refl
count-of (v ∷ vs) = omega (arith, count-of vs)

both-right : (a b : Bool) → (a && b) ≡ true → b ≡ true
both-right true b h = h
both-right false b h = absurd cc

counted-few : (p : TablePlace) (low high : ℕ) (xs ds : Items) → (counted p low high xs >>= (λ k. Ok xs)) ≡ Ok ds → items_len ds ≤ high
counted-few p low high xs ds h =
    elim (leb low (items_len xs) && leb (items_len xs) high) as (λ b. (leb low (items_len xs) && leb (items_len xs) high) ≡ b → (wanted p CountOutOfRange b >>= (λ k. Ok xs)) ≡ Ok ds → items_len ds ≤ high) [
      | true ↦ λ t h. (let same : xs ≡ ds = cc in subst (λ (z : Items). items_len z ≤ high) same (leb-true (items_len xs) high (both-right (leb low (items_len xs)) (leb (items_len xs) high) t)))
      | false ↦ λ t h. absurd cc
    ] refl h

read-few : (p : TablePlace) (low high : ℕ) (r : Reading Items) (ds : Items) → (r >>= (λ xs. counted p low high xs >>= (λ k. Ok xs))) ≡ Ok ds → items_len ds ≤ high
read-few p low high (Ok xs) ds h = counted-few p low high xs ds h
read-few p low high (Err f) ds h = absurd cc

pub tables-few : (p : TablePlace) (key : List ℕ) (low high : ℕ) (ms : Members) (ds : Items) → tables_at p key low high ms ≡ Ok ds → items_len ds ≤ high
unfolding tables_at
tables-few p key low high ms ds h = read-few p low high (array_at p key ms) ds h

there-few : (p : TablePlace) (key : List ℕ) (high : ℕ) (ms : Members) (o : Option Data) (ds : Items) → if_there o (tables_at p key 0 high ms) ≡ Ok ds → items_len ds ≤ high
there-few p key high ms None ds h = let same : no_items ≡ ds = cc in subst (λ (z : Items). items_len z ≤ high) same (omega arith)
there-few p key high ms (Some d) ds h = tables-few p key 0 high ms ds h

pub optional-few : (p : TablePlace) (key : List ℕ) (high : ℕ) (ms : Members) (ds : Items) → optional_at p key high ms ≡ Ok ds → items_len ds ≤ high
optional-few p key high ms ds h = there-few p key high ms (get_member key ms) ds h
