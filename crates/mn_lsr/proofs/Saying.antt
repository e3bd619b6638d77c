-- Ids and counts by the ends of the sessions are those of the node.
use Rattle.std.proofs.Common.{ℕ, zero, suc, ◌≡◌, ◌≢◌, ◌+◌, ◌++◌, ◌<◌, inl, inr, Bool, true, false, cond, List, [], ◌∷◌, length, map, filter, refl, arith}
use Rattle.std.proofs.Common.{sym, ◌∙◌, ap, subst, Option, Some, None}
use Rattle.std.specs.Prelude.{◌==◌, ◌&&◌, slice_index_or, slice_set, option_map}
use Rattle.std.proofs.lemmas.Bool.Decides.{eqb_tells}
use Rattle.std.specs.List.{flat_map}
use Rattle.std.proofs.Common.{drop}
use Rattle.std.proofs.lemmas.List.{append_assoc}
use Rattle.std.proofs.Math.Seq.{drop-cons}
use Rattle.std.proofs.Math.ListN.{length-set}
use Rattle.mn_wiring.specs.Wiring.{Wiring}
use Rattle.mn_bindings.specs.declared.event.Tell.{Tell}
use Rattle.mn_ldp_session.specs.Spelling.{Pdu}
use Rattle.mn_bindings.specs.Bindings.{Bindings}
use Rattle.mn_labels.specs.Labels.{Labels}
use Rattle.mn_node.specs.Ldp.{Said, is_by, messages_of}
use Rattle.mn_node.specs.Node.{Session, Node, session_at}
use Rattle.mn_node.specs.Machine.{with_count, counted_from, having_said}
use Rattle.mn_node.proofs.News.{EachBy}
use Rattle.mn_ldp_session.specs.Spelling.{pdu, pdus, count_of, one_said}
use Rattle.mn_lsr.specs.declared.parts.Open.{Open}
use Rattle.mn_lsr.specs.Standing.{session_in, sessions_from}
use Rattle.mn_lsr.specs.Telling.{MayTell}
use Rattle.mn_lsr.specs.Parts.{said_in, one_more, bumped, pdus_by, ends_after}

-- 1. One session by its end

module _ (w : Wiring) (me : ℕ) (lib : Bindings) where
  pub at-is : (ends : List (Option Open)) (q k l : ℕ) → q + k ≡ l →
      slice_index_or (sessions_from w me lib q ends) k None ≡ option_map (session_in w me lib l) (slice_index_or ends k None)
  at-is [] q k l e = refl
  at-is (end ∷ ends) q zero l e = ap (λ x. option_map (session_in w me lib x) end) (same q ∙ e)
    where
      same : (q : ℕ) → q ≡ q + 0
      same q = omega arith
  at-is (end ∷ ends) q (suc k) l e = at-is ends (q + 1) k l (omega (arith, e))

  pub set-is : (ends : List (Option Open)) (q k l : ℕ) (x : Option Open) → q + k ≡ l →
      slice_set (sessions_from w me lib q ends) k (option_map (session_in w me lib l) x) ≡ sessions_from w me lib q (slice_set ends k x)
  set-is [] q k l x e = refl
  set-is (end ∷ ends) q zero l x e = ap (λ y. option_map (session_in w me lib y) x ∷ sessions_from w me lib (q + 1) ends) (sym (same q ∙ e))
    where
      same : (q : ℕ) → q ≡ q + 0
      same q = omega arith
  set-is (end ∷ ends) q (suc k) l x e = ap (λ ys. option_map (session_in w me lib q) end ∷ ys) (set-is ends (q + 1) k l x (omega (arith, e)))

  pub count-is : (l : ℕ) (o : Option Open) → count_of (option_map (session_in w me lib l) o) ≡ said_in o
  count-is l None = refl
  count-is l (Some end) = refl

  bump-is : (l : ℕ) (o : Option Open) →
      option_map (with_count 1) (option_map (session_in w me lib l) o) ≡ option_map (session_in w me lib l) (option_map one_more o)
  bump-is l None = refl
  bump-is l (Some end) = refl

  abbrev pub with_ends : List ℕ → List (Option Open) → Node
  with_ends learned ends = record { me = me; learned = learned; sessions = sessions_from w me lib 0 ends }

  one-is : (learned : List ℕ) (ends : List (Option Open)) (l : ℕ) → one_said (with_ends learned ends) l ≡ with_ends learned (bumped ends l)
  one-is learned ends l =
      ap (λ s. let o : Node = record { me = me; learned = learned; sessions = slice_set (sessions_from w me lib 0 ends) l (option_map (with_count 1) s) } in
      o) (at-is ends 0 l l (omega arith))
      ∙ ap (λ s. let o : Node = record { me = me; learned = learned; sessions = slice_set (sessions_from w me lib 0 ends) l s } in
      o) (bump-is l (slice_index_or ends l None))
      ∙ ap (λ ss. let o : Node = record { me = me; learned = learned; sessions = ss } in
      o) (set-is ends 0 l l (option_map one_more (slice_index_or ends l None)) (omega arith))

  -- the PDUs by the ends are the node's
  pub pdus-by : (own : ℕ → ℕ) (withdrawn : ℕ) (learned : List ℕ) (ends : List (Option Open)) (xs : List Said) →
      pdus_by w me own withdrawn ends xs ≡ pdus w own withdrawn (with_ends learned ends) xs
  pdus-by own withdrawn learned ends [] = refl
  pdus-by own withdrawn learned ends (x ∷ xs) =
      ap (λ c. pdu w x.link me own withdrawn (c + 1) x.message ∷ pdus_by w me own withdrawn (bumped ends x.link) xs)
      (sym (ap count_of (at-is ends 0 x.link x.link (omega arith)) ∙ count-is x.link (slice_index_or ends x.link None)))
      ∙ ap (λ ps. pdu w x.link me own withdrawn (count_of (session_at (with_ends learned ends) x.link) + 1) x.message ∷ ps)
      (pdus-by own withdrawn learned (bumped ends x.link) xs ∙ ap (λ n. pdus w own withdrawn n xs) (sym (one-is learned ends x.link)))

-- 2. A node that says one message more

count_more : (k : ℕ) (s : Option Session) → option_map (with_count (suc k)) s ≡ option_map (with_count k) (option_map (with_count 1) s)
count_more k None = refl
count_more k (Some s) = ap (λ n. let o : Option Session = Some (record s { said = n }) in o) (more s.said k)
  where
    more : (a k : ℕ) → a + suc k ≡ a + 1 + k
    more a k = omega arith

messages-here : (me : ℕ) (x : Said) (xs : List Said) → x.end ≡ me → length (messages_of x.link me (x ∷ xs)) ≡ suc (length (messages_of x.link me xs))
messages-here me x xs e =
    ap (λ b. length (map (λ said. said.message) (cond b (x ∷ filter (is_by x.link me) xs) (filter (is_by x.link me) xs))))
    (both (same x.link x.link refl) (same x.end me e))
  where
    same : (a b : ℕ) → a ≡ b → (a == b) ≡ true
    same a b e = elim (eqb_tells a b) [ inl p ↦ p.0 | inr p ↦ absurd (p.1 e) ]

    both : {a b : Bool} → a ≡ true → b ≡ true → (a && b) ≡ true
    both {a} {b} f g = ap (λ z. z && b) f ∙ g

messages-off : (l me : ℕ) (x : Said) (xs : List Said) → x.link ≢ l → messages_of l me (x ∷ xs) ≡ messages_of l me xs
messages-off l me x xs d =
    ap (λ b. map (λ (said : Said). said.message) (cond (b && (x.end == me)) (x ∷ filter (is_by l me) xs) (filter (is_by l me) xs))) (other x.link l d)
  where
    other : (a b : ℕ) → a ≢ b → (a == b) ≡ false
    other a b d = elim (eqb_tells a b) [ inl p ↦ absurd (d p.1) | inr p ↦ p.0 ]

counted-past : (q me : ℕ) (x : Said) (xs : List Said) (ss : List (Option Session)) → x.link < q → counted_from q me (x ∷ xs) ss ≡ counted_from q me xs ss
counted-past q me x xs [] h = refl
counted-past q me x xs (s ∷ ss) h =
    ap (λ ms. option_map (with_count (length ms)) s ∷ counted_from (q + 1) me (x ∷ xs) ss) (messages-off q me x xs (λ e. less x.link q h e))
    ∙ ap (λ ts. option_map (with_count (length (messages_of q me xs))) s ∷ ts) (counted-past (q + 1) me x xs ss (omega (arith, h)))
  where
    less : (a b : ℕ) → a < b → a ≡ b → ⊥
    less a b h e = omega (arith, h, e)

counted-one : (ss : List (Option Session)) (q k me : ℕ) (x : Said) (xs : List Said) → x.end ≡ me → q + k ≡ x.link
    → counted_from q me (x ∷ xs) ss ≡ counted_from q me xs (slice_set ss k (option_map (with_count 1) (slice_index_or ss k None)))
counted-one [] q k me x xs e f = refl
counted-one (s ∷ ss) q zero me x xs e f =
    ap (λ n. option_map (with_count n) s ∷ counted_from (q + 1) me (x ∷ xs) ss) (ap (λ l. length (messages_of l me (x ∷ xs))) (at q x.link f)
    ∙ messages-here me x xs e ∙ ap (λ l. suc (length (messages_of l me xs))) (sym (at q x.link f)))
    ∙ ap (λ t. t ∷ counted_from (q + 1) me (x ∷ xs) ss) (count_more (length (messages_of q me xs)) s)
    ∙ ap (λ ts. option_map (with_count (length (messages_of q me xs))) (option_map (with_count 1) s) ∷ ts) (counted-past (q + 1) me x xs ss (above q x.link f))
  where
    at : (q l : ℕ) → q + 0 ≡ l → q ≡ l
    at q l f = omega (arith, f)

    above : (q l : ℕ) → q + 0 ≡ l → l < q + 1
    above q l f = omega (arith, f)
counted-one (s ∷ ss) q (suc k) me x xs e f =
    ap (λ ms. option_map (with_count (length ms)) s ∷ counted_from (q + 1) me (x ∷ xs) ss) (messages-off q me x xs (λ g. past x.link q k f g))
    ∙ ap (λ ts. option_map (with_count (length (messages_of q me xs))) s ∷ ts) (counted-one ss (q + 1) k me x xs e (omega (arith, f)))
  where
    past : (l q k : ℕ) → q + suc k ≡ l → l ≡ q → ⊥
    past l q k f g = omega (arith, f, g)

having-one : (n : Node) (x : Said) (xs : List Said) → x.end ≡ n.me → having_said n (x ∷ xs) ≡ having_said (one_said n x.link) xs
having-one n x xs e = ap (λ ss. let o : Node = record n { sessions = ss } in o) (counted-one n.sessions 0 x.link n.me x xs e (omega arith))

count_none : (s : Option Session) → option_map (with_count 0) s ≡ s
count_none None = refl
count_none (Some s) = ap (λ n. let o : Option Session = Some (record s { said = n }) in o) (none s.said)
  where
    none : (n : ℕ) → n + 0 ≡ n
    none n = omega arith

counted_none : (q me : ℕ) (ss : List (Option Session)) → counted_from q me [] ss ≡ ss
counted_none q me [] = refl
counted_none q me (s ∷ ss) = ap (λ x. x ∷ counted_from (q + 1) me [] ss) (count_none s) ∙ ap (λ xs. s ∷ xs) (counted_none (q + 1) me ss)

-- the node by its ends, once all is sent
pub having-by : (w : Wiring) (me : ℕ) (lib : Bindings) (learned : List ℕ) (ends : List (Option Open)) (xs : List Said) → EachBy me xs
    → having_said (with_ends w me lib learned ends) xs ≡ with_ends w me lib learned (ends_after ends xs)
having-by w me lib learned ends [] h =
    ap (λ ss. let o : Node = record { me = me; learned = learned; sessions = ss } in o) (counted_none 0 me (sessions_from w me lib 0 ends))
having-by w me lib learned ends (x ∷ xs) h =
    having-one (with_ends w me lib learned ends) x xs h.0
    ∙ ap (λ n. having_said n xs) (one-is w me lib learned ends x.link)
    ∙ having-by w me lib learned (bumped ends x.link) xs h.1

-- 3. What is sent in two parts

pub length-ends_after : (ends : List (Option Open)) (xs : List Said) → length (ends_after ends xs) ≡ length ends
length-ends_after ends [] = refl
length-ends_after ends (x ∷ xs) = length-ends_after (bumped ends x.link) xs ∙ length-set ends x.link (option_map one_more (slice_index_or ends x.link None))

pub pdus_by-append : (w : Wiring) (me : ℕ) (own : ℕ → ℕ) (withdrawn : ℕ) (ends : List (Option Open)) (xs ys : List Said)
    → pdus_by w me own withdrawn ends (xs ++ ys) ≡ pdus_by w me own withdrawn ends xs ++ pdus_by w me own withdrawn (ends_after ends xs) ys
pdus_by-append w me own withdrawn ends [] ys = refl
pdus_by-append w me own withdrawn ends (x ∷ xs) ys =
    ap (λ ps. pdu w x.link me own withdrawn (said_in (slice_index_or ends x.link None) + 1) x.message ∷ ps)
    (pdus_by-append w me own withdrawn (slice_set ends x.link (option_map one_more (slice_index_or ends x.link None))) xs ys)

pub ends_after-append : (ends : List (Option Open)) (xs ys : List Said) → ends_after ends (xs ++ ys) ≡ ends_after (ends_after ends xs) ys
ends_after-append ends [] ys = refl
ends_after-append ends (x ∷ xs) ys = ends_after-append (slice_set ends x.link (option_map one_more (slice_index_or ends x.link None))) xs ys

-- one tell said, and then those after it
module _ (w : Wiring) (me : ℕ) (own : ℕ → ℕ) (withdrawn : ℕ) (f : Tell → List Said) (tells : List Tell) (i : ℕ) (d : Tell) (below : i < length tells) where
  seam : flat_map f (drop i tells) ≡ f (slice_index_or tells i d) ++ flat_map f (drop (i + 1) tells)
  seam = ap (flat_map f) (drop-cons tells i d below) ∙ ap (λ k. f (slice_index_or tells i d) ++ flat_map f (drop k tells)) (next i)
    where
      next : (i : ℕ) → suc i ≡ i + 1
      next i = omega arith

  pub ends-one : (ends then_ends : List (Option Open)) → then_ends ≡ ends_after ends (f (slice_index_or tells i d))
      → ends_after then_ends (flat_map f (drop (i + 1) tells)) ≡ ends_after ends (flat_map f (drop i tells))
  ends-one ends then_ends e =
      ap (λ es. ends_after es (flat_map f (drop (i + 1) tells))) e
      ∙ sym (ends_after-append ends (f (slice_index_or tells i d)) (flat_map f (drop (i + 1) tells))) ∙ ap (ends_after ends) (sym seam)

  pub said-one : (out then_out : List Pdu) (ends then_ends : List (Option Open)) → then_ends ≡ ends_after ends (f (slice_index_or tells i d))
      → then_out ≡ out ++ pdus_by w me own withdrawn ends (f (slice_index_or tells i d))
      → then_out ++ pdus_by w me own withdrawn then_ends (flat_map f (drop (i + 1) tells)) ≡ out ++ pdus_by w me own withdrawn ends (flat_map f (drop i tells))
  said-one out then_out ends then_ends e o =
      ap (λ ps. ps ++ pdus_by w me own withdrawn then_ends (flat_map f (drop (i + 1) tells))) o
      ∙ append_assoc out (pdus_by w me own withdrawn ends (f (slice_index_or tells i d)))
      (pdus_by w me own withdrawn then_ends (flat_map f (drop (i + 1) tells)))
      ∙ ap (λ es. out ++ (pdus_by w me own withdrawn ends (f (slice_index_or tells i d)) ++ pdus_by w me own withdrawn es (flat_map f (drop (i + 1) tells)))) e
      ∙ ap (λ ps. out ++ ps) (sym (pdus_by-append w me own withdrawn ends (f (slice_index_or tells i d)) (flat_map f (drop (i + 1) tells)))
      ∙ ap (pdus_by w me own withdrawn ends) (sym seam))

-- each tell may be told, and then those after it
pub may-rest : (nodes me withdrawn : ℕ) (labels : Labels) (tells : List Tell) (i : ℕ) (d : Tell) → i < length tells →
    MayTell nodes me labels withdrawn (drop i tells) → MayTell nodes me labels withdrawn (drop (i + 1) tells)
may-rest nodes me withdrawn labels tells i d below may =
    subst (λ k. MayTell nodes me labels withdrawn (drop k tells)) (next i) ((subst (MayTell nodes me labels withdrawn) (drop-cons tells i d below) may).2)
  where
    next : (i : ℕ) → suc i ≡ i + 1
    next i = omega arith
