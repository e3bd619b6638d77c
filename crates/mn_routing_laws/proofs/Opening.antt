-- What the code makes of the ends of a session.
use Rattle.std.proofs.Common.{ℕ, zero, suc, ◌≡◌, ◌≢◌, ◌+◌, ◌*◌, ◌<◌, not, List, [], ◌∷◌, ◌++◌, length, refl, arith, sym, ◌∙◌, ap, subst}
use Rattle.std.proofs.Common.{append_assoc, Option, Some, None, Result, Ok, Err}
use Rattle.std.specs.Prelude.{◌==◌, IfOk, slice_get, slice_set}
use Rattle.std.specs.List.{All}
use Rattle.std.proofs.lemmas.List.{length-append}
use Rattle.std.proofs.lemmas.List.Elements.{All-filter}
use Rattle.mn_flight.specs.declared.Item.{Item}
use Rattle.mn_flight.specs.Flying.{off_channel, without}
use Rattle.mn_topo.specs.Network.{Network}
use Rattle.mn_bgp_session.specs.declared.session.BgpSession.{BgpSession}
use Rattle.mn_pe.specs.Edge.{after_forget}
use Rattle.mn_pe.specs.Pe.{PeNow}
use Rattle.mn_routing_laws.specs.Whole.{opened}
use Rattle.mn_routing_laws.specs.Routed.{Routed, working}
use Rattle.mn_routing_laws.specs.Sending.{Parcel, put_all}
use Rattle.mn_routing_laws.specs.Doing.{Puts, Opens, Ends, cut, open_to, with_end, forgotten, edge_at, edge_or_blank}
use Rattle.mn_routing_laws.proofs.Putting.{put_more}
use Rattle.mn_routing_laws.proofs.Turning.{get_other, index_other}

-- 1. Numbers

pub cut_below : (t : Network) (a b : ℕ) (old one two three : Routed) (x y : Option BgpSession) (n : ℕ) → one ≡ with_end a b x old →
    two ≡ with_end b a y one → three ≡ cut t a b two
    → All (λ item. item.number < n) old.messages → All (λ item. item.number < n) three.messages
cut_below t a b old one two three x y n e f g h =
    subst (λ (r : Routed). All (λ item. item.number < n) r.messages) (sym (g ∙ ap (cut t a b) (f ∙ ap (with_end b a y) e)))
    (All-filter (λ (item : Item (List ℕ)). not (item.channel == b * length t.loopbacks + a)) (λ item. item.number < n)
    (off_channel (a * length t.loopbacks + b) old.messages)
    (All-filter (λ (item : Item (List ℕ)). not (item.channel == a * length t.loopbacks + b)) (λ item. item.number < n) old.messages h))

-- what is left once one was taken
pub taken_below : (o : Option (Item (List ℕ))) (items left : List (Item (List ℕ))) (n : ℕ) → left ≡ without o items → All (λ item. item.number < n) items →
    All (λ item. item.number < n) left
taken_below None items left n e h = subst (All (λ (item : Item (List ℕ)). item.number < n)) (sym e) h
taken_below (Some taken) items left n e h =
    subst (All (λ (item : Item (List ℕ)). item.number < n)) (sym e)
    (All-filter (λ (item : Item (List ℕ)). not (item.number == taken.number)) (λ item. item.number < n) items h)

-- 2. One message after another

pub puts_twice : (t : Network) (tick number middle next : ℕ) (xs ys : List Parcel) (old mid new : Routed) → Puts t tick number xs old mid middle →
    Puts t tick middle ys mid new next → Puts t tick number (xs ++ ys) old new next
puts_twice t tick number middle next xs ys old mid new f g = record {
  new_is = g.new_is
      ∙ ap (λ (m : Routed). record m { messages = m.messages ++ put_all (tick + t.bgp_delay) middle ys }) f.new_is
      ∙ ap (λ ms. record old { messages = ms })
      (append_assoc old.messages (put_all (tick + t.bgp_delay) number xs) (put_all (tick + t.bgp_delay) middle ys)
      ∙ ap (λ k. old.messages ++ (put_all (tick + t.bgp_delay) number xs ++ put_all (tick + t.bgp_delay) k ys)) f.next_is
      ∙ ap (λ ms. old.messages ++ ms) (sym (put_more (tick + t.bgp_delay) number xs ys)));
  next_is = let one = f.next_is in let two = g.next_is in let both = length-append xs ys in omega (arith, one, two, both);
}

-- 3. A session opens, or ends

pub opens_so : {E : Type 0} (t : Network) (tick number middle a b : ℕ) (old one two three four new : Routed) (s u : BgpSession) (r : Result ℕ E) →
    s ≡ opened t a b → u ≡ opened t b a
    → one ≡ with_end a b (Some s) old → two ≡ with_end b a (Some u) one → three ≡ cut t a b two → Puts t tick number (open_to t a b ∷ []) three four middle
    → IfOk r (λ next. Puts t tick middle (open_to t b a ∷ []) four new next) → IfOk r (λ next. Opens t tick number a b old new next)
opens_so t tick number middle a b old one two three four new s u (Err e) s_is u_is first second third f g = tt
opens_so t tick number middle a b old one two three four new s u (Ok next) s_is u_is first second third f g =
    subst (λ m. Puts t tick number (open_to t a b ∷ open_to t b a ∷ []) m new next)
    (third ∙ ap (cut t a b) (second ∙ ap (λ z. with_end b a (Some z) one) u_is
    ∙ ap (with_end b a (Some (opened t b a))) (first ∙ ap (λ z. with_end a b (Some z) old) s_is)))
    (puts_twice t tick number middle next (open_to t a b ∷ []) (open_to t b a ∷ []) three four new f g)

pub ends_so : (t : Network) (a b : ℕ) (old one two three four new : Routed) → one ≡ forgotten a b old → two ≡ forgotten b a one →
    three ≡ with_end a b None two → four ≡ with_end b a None three → new ≡ cut t a b four
    → Ends t a b old new
ends_so t a b old one two three four new e f g h i = i ∙ ap (cut t a b) (h ∙ ap (with_end b a None) (g ∙ ap (with_end a b None) (f ∙ ap (forgotten b a) e)))

-- the second edge is there while the first has forgotten
pub second_there : (a b : ℕ) (old one : Routed) → a ≢ b → one ≡ forgotten a b old → slice_get old.edges b ≡ Some (Some (working (edge_at old b))) →
    slice_get one.edges b ≡ Some (Some (working (edge_at one b)))
second_there a b old one apart is there =
    subst (λ (r : Routed). slice_get r.edges b ≡ Some (Some (working (edge_at r b)))) (sym is)
    (get_other old.edges a b (Some (working (after_forget (edge_at old a) b))) apart ∙ there
    ∙ ap (λ (o : Option PeNow). Some (Some (working (edge_or_blank o))))
    (sym (index_other old.edges a b (Some (working (after_forget (edge_at old a) b))) None apart)))

-- to set what is there changes nothing
pub set_same : {A : Type 0} (xs : List A) (k : ℕ) (x : A) → slice_get xs k ≡ Some x → slice_set xs k x ≡ xs
set_same [] k x h = refl
set_same (y ∷ ys) zero x h = ap (λ z. z ∷ ys) (let e : Some y ≡ Some x = h in cc)
set_same (y ∷ ys) (suc k) x h = ap (λ zs. y ∷ zs) (set_same ys k x h)
