-- The ends of sessions, row by row.
use Rattle.std.proofs.Common.{ℕ, zero, suc, ◌≡◌, ◌<◌, ◌+◌, List, [], ◌∷◌, ◌++◌, map, length, refl, sym, ◌∙◌, ap, get_or, Option, Some, None}
use Rattle.std.proofs.Common.{Result, Ok, Err}
use Rattle.std.specs.Prelude.{IfOk, OnOk, slice_get, slice_set, slice_index_or}
use Rattle.std.specs.List.{All}
use Rattle.std.proofs.lemmas.Option.{same_Some}
use Rattle.mn_flight.specs.declared.Item.{Item}
use Rattle.mn_bgp_session.specs.declared.session.BgpSession.{BgpSession}
use Rattle.mn_bgp_wire.specs.declared.message.BgpMessage.{BgpMessage}
use Rattle.mn_bgp_wire.specs.declared.refusal.BgpWireBad.{BgpWireBad}
use Rattle.mn_bgp_wire.specs.declared.refusal.BgpWireBad.TheVariants as bads
use Rattle.mn_bgp_wire.specs.Reading.{Fails}
use Rattle.mn_routing_laws.proofs.Putting.{below_next, get_row}

map_set : {R B : Type 0} (f : R → B) (rows : List R) (i : ℕ) (x : R) → map f (slice_set rows i x) ≡ slice_set (map f rows) i (f x)
map_set f [] i x = refl
map_set f (y ∷ ys) zero x = refl
map_set f (y ∷ ys) (suc i) x = ap (λ zs. f y ∷ zs) (map_set f ys i x)

found : {A : Type 0} (xs : List A) (k : ℕ) (x d : A) → slice_get xs k ≡ Some x → get_or xs k d ≡ x
found [] k x d h = absurd (let none : None ≡ Some x → ⊥ = (λ e. cc) in none h)
found (y ∷ ys) zero x d h = same_Some y x h
found (y ∷ ys) (suc k) x d h = found ys k x d h

module _ {R : Type 0} (f : R → List (Option BgpSession)) (rows : List R) (i j a b : ℕ) (row : R) (value : row ≡ get_or rows i row) (at : i ≡ a) (to : j ≡ b)
    (within : a < length (map f rows)) where
  row_is : f row ≡ slice_index_or (map f rows) a []
  row_is = get_row f rows a row within (value ∙ ap (λ k. get_or rows k row) at)

  pub row_set : (later : R) (end : Option BgpSession) → f later ≡ slice_set (f row) j end →
      map f (slice_set rows i later) ≡ slice_set (map f rows) a (slice_set (slice_index_or (map f rows) a []) b end)
  row_set later end is = map_set f rows i later ∙ ap (λ k. slice_set (map f rows) k (f later)) at
      ∙ ap (slice_set (map f rows) a) (is ∙ ap (λ xs. slice_set xs j end) row_is ∙ ap (λ k. slice_set (slice_index_or (map f rows) a []) k end) to)

  pub session_is : (r : Option BgpSession) (end session : BgpSession) → r ≡ get_or (f row) j r → r ≡ Some end →
      slice_get (slice_index_or (map f rows) a []) b ≡ Some (Some session) → end ≡ session
  session_is r end session got is lives =
      same_Some end session (sym is ∙ got ∙ ap (λ xs. get_or xs j r) row_is ∙ ap (λ k. get_or (slice_index_or (map f rows) a []) k r) to
      ∙ found (slice_index_or (map f rows) a []) b (Some session) r lives)

pub same_ok : {A E : Type 0} (x y : A) → (let r : Result A E = Ok x in r) ≡ Ok y → x ≡ y
same_ok x y h = cc

pub sent_below : {T E : Type 0} (r : Result ℕ E) (n : ℕ) (items new : List (Item T)) (x : Item T) → OnOk r (new ≡ items ++ x ∷ []) →
    IfOk r (λ next. next ≡ n + 1) → x.number ≡ n → All (λ item. item.number < n) items
    → IfOk r (λ next. All (λ item. item.number < next) new)
sent_below (Err e) n items new x put next is below = tt
sent_below (Ok m) n items new x put next is below = below_next n m items new x next put is below

-- bytes that spell a message are refused only where memory runs out
pub fails_only : (bad : BgpWireBad) (m : BgpMessage) → Fails bad (Ok m) → bad ≡ bads.NoMemory
fails_only bads.NoMemory m h = refl
fails_only bads.Short m h = cc
fails_only bads.BadMarker m h = cc
fails_only bads.BadLength m h = cc
fails_only bads.BadType m h = cc
fails_only bads.BadOpen m h = cc
fails_only bads.BadAttribute m h = cc
fails_only bads.MissingAttribute m h = cc

pub if_ok : {A E : Type 0} {P Q : A → Type 0} (r : Result A E) → ((x : A) → P x → Q x) → IfOk r P → IfOk r Q
if_ok (Ok x) f h = f x h
if_ok (Err e) f h = tt

pub if_both : {A E : Type 0} {P Q R : A → Type 0} (r : Result A E) → ((x : A) → P x → Q x → R x) → IfOk r P → IfOk r Q → IfOk r R
if_both (Ok x) f p q = f x p q
if_both (Err e) f p q = tt
