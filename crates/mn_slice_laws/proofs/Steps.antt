-- Each step of the ledger is, for every node, what happens to that node; and what is sent in it is what the acting nodes say.
use Rattle.std.proofs.Common.{ℕ, ◌≡◌, ◌≢◌, ◌+◌, ◌<◌, ◌≤◌, inl, inr, Bool, true, false, List, [], ◌∷◌, ◌++◌, length, refl, arith, sym, ◌∙◌, ap, subst}
use Rattle.std.proofs.Common.{Option, Some, None}
use Rattle.std.specs.Prelude.{◌==◌, not, nat_lt, option_map, if◌then◌else◌}
use Rattle.std.specs.List.{flat_map}
use Rattle.std.proofs.lemmas.Bool.Decides.{nat_tests}
use Rattle.std.proofs.lemmas.List.Elements.{filter-append}
use Rattle.mn_base.proofs.Bools.{clash}
use Rattle.mn_wiring.specs.Wiring.{Wiring, link, is_end, JoinsNodes, EndsDiffer}
use Rattle.mn_topo.specs.Network.{Network, wiring_of}
use Rattle.mn_ledger.specs.Places.{loopback}
use Rattle.mn_ledger.specs.World.{Config, Views, Sessions}
use Rattle.mn_ledger.specs.Transport.{lives, is_active, opening, knowledge_of, ends_first, ldp_restarted, with_said}
use Rattle.mn_ledger.proofs.Turning.{Apart, opener, end_is, across-a, across-b, is_end-a, is_end-b}
use Rattle.mn_node.specs.Ldp.{Initialization, Said, said_on, news}
use Rattle.mn_node.specs.Node.{Session, Node, knowledge_in}
use Rattle.mn_node.specs.Machine.{Event, with_count, counted_from, answers, having_said, after_any, said_any}
use Rattle.mn_slice_laws.specs.Slice.{node_of, turned}
use Rattle.mn_slice_laws.proofs.Known.{news-is}
use Rattle.mn_slice_laws.proofs.Saying.{HeardWithin, node-said, having-own}
use Rattle.mn_slice_laws.proofs.Changing.{changed_any, life}
use Rattle.mn_node.proofs.News.{by-said, by-news, part_of, part_none, part_all, no_news}
use Rattle.mn_slice_laws.proofs.Own.{part_of_ends}

abbrev pub answers_any : Wiring → Node → Option Event → List Said
answers_any w n None = []
answers_any w n (Some e) = answers w n e

-- 1. From the parts to the whole

-- one node's part of all that is sent: its answers, and its news
pub part-is : (t : Network) (c new : Config) (v nv : Views) (s k : Sessions) (m : ℕ) (e : Option Event) (xs ns : List Said)
    → part_of m xs ≡ answers_any (wiring_of t) (node_of t c v s m) e
    → part_of m ns ≡ news (wiring_of t) (knowledge_of (wiring_of t) c v s m) (knowledge_of (wiring_of t) new nv k m) m
    → node_of t new nv k m ≡ changed_any (wiring_of t) (node_of t c v s m) e
    → part_of m (xs ++ ns) ≡ said_any (wiring_of t) (node_of t c v s m) e
part-is t c new v nv s k m e xs ns f g h =
    filter-append (λ said. said.end == m) xs ns
    ∙ ap (λ ys. ys ++ part_of m ns) f
    ∙ ap (λ ys. answers_any (wiring_of t) (node_of t c v s m) e ++ ys)
    (g ∙ news-is t c new v nv s k m ∙ ap (λ n. news (wiring_of t) (knowledge_in (node_of t c v s m)) (knowledge_in n) m) h)
    ∙ whole e
  where
    whole : (e : Option Event) →
        answers_any (wiring_of t) (node_of t c v s m) e ++ news (wiring_of t) (knowledge_in (node_of t c v s m))
        (knowledge_in (changed_any (wiring_of t) (node_of t c v s m) e)) m ≡ said_any (wiring_of t) (node_of t c v s m) e
    whole None = no_news (wiring_of t) (knowledge_in (node_of t c v s m)) m
    whole (Some e) = refl

-- with nothing said, nothing counts
count_none : (s : Option Session) → option_map (with_count 0) s ≡ s
count_none None = refl
count_none (Some s) = ap (λ n. let o : Option Session = Some (record s { said = n }) in o) (none s.said)
  where
    none : (n : ℕ) → n + 0 ≡ n
    none n = omega arith

counted_none : (q me : ℕ) (ss : List (Option Session)) → counted_from q me [] ss ≡ ss
counted_none q me [] = refl
counted_none q me (s ∷ ss) = ap (λ x. x ∷ counted_from (q + 1) me [] ss) (count_none s) ∙ ap (λ xs. s ∷ xs) (counted_none (q + 1) me ss)

said_nothing : (n : Node) → having_said n [] ≡ n
said_nothing n = ap (λ ss. let o : Node = record n { sessions = ss } in o) (counted_none 0 n.me n.sessions)

-- and then the node, once all is sent
pub node-is : (t : Network) (c new : Config) (v nv : Views) (s k : Sessions) (m : ℕ) (e : Option Event) (xs : List Said)
    → HeardWithin t new k
    → part_of m xs ≡ said_any (wiring_of t) (node_of t c v s m) e
    → node_of t new nv k m ≡ changed_any (wiring_of t) (node_of t c v s m) e
    → node_of t new nv (with_said k xs) m ≡ after_any (wiring_of t) (node_of t c v s m) e
node-is t c new v nv s k m e xs within f h =
    node-said t new nv k xs m within
    ∙ having-own (node_of t new nv k m) xs
    ∙ ap (having_said (node_of t new nv k m)) f
    ∙ ap (λ n. having_said n (said_any (wiring_of t) (node_of t c v s m) e)) h
    ∙ whole e
  where
    whole : (e : Option Event) →
        having_said (changed_any (wiring_of t) (node_of t c v s m) e) (said_any (wiring_of t) (node_of t c v s m) e) ≡ after_any (wiring_of t)
        (node_of t c v s m) e
    whole None = said_nothing (node_of t c v s m)
    whole (Some e) = refl

-- 2. Who answers

-- of two loopbacks the greater is active
one_active : (x y : ℕ) → x ≢ y → nat_lt x y ≡ not (nat_lt y x)
one_active x y d = by (nat_lt x y) (nat_lt y x) refl refl
  where
    less : (a b : ℕ) → nat_lt a b ≡ true → a < b
    less a b h = grind (arith, nat_tests, h)

    not_less : (a b : ℕ) → nat_lt a b ≡ false → b ≤ a
    not_less a b h = grind (arith, nat_tests, h)

    both : x < y → y < x → ⊥
    both h g = omega (arith, h, g)

    neither : y ≤ x → x ≤ y → x ≡ y
    neither h g = omega (arith, h, g)

    by : (b c : Bool) → nat_lt x y ≡ b → nat_lt y x ≡ c → b ≡ not c
    by true false e f = refl
    by false true e f = refl
    by true true e f = absurd (both (less x y e) (less y x f))
    by false false e f = absurd (d (neither (not_less x y e) (not_less y x f)))

active_b : (t : Network) (l : ℕ) → Apart t → JoinsNodes (wiring_of t) → EndsDiffer (wiring_of t) → l < length t.links
    → is_active t l (link (wiring_of t) l).b.0 ≡ not (is_active t l (link (wiring_of t) l).a.0)
active_b t l apart joins differ below =
    let w : Wiring = wiring_of t in
    ap (λ n. nat_lt (loopback t n) (loopback t (link w l).b.0)) (across-b w l (differ l below))
    ∙ one_active (loopback t (link w l).a.0) (loopback t (link w l).b.0)
    (apart (link w l).a.0 (link w l).b.0 (joins l below).0 (joins l below).1 (differ l below))
    ∙ ap (λ n. not (nat_lt (loopback t n) (loopback t (link w l).a.0))) (sym (across-a w l))

abbrev first_word : ℕ → ℕ → List Said
first_word l n = said_on l n (Initialization ∷ [])

module _ (t : Network) (l : ℕ) (apart : Apart t) (joins : JoinsNodes (wiring_of t)) (differ : EndsDiffer (wiring_of t)) (below : l < length t.links) where
  abbrev a : ℕ
  a = (link (wiring_of t) l).a.0

  abbrev b : ℕ
  b = (link (wiring_of t) l).b.0

  at_a : (first : Bool) → is_active t l a ≡ first → part_of a (first_word l (if first then a else b)) ≡ (if first then first_word l a else [])
  at_a true e = part_all a (first_word l a) (by-said l a (Initialization ∷ []))
  at_a false e = part_none b a (first_word l b) (λ q. differ l below (sym q)) (by-said l b (Initialization ∷ []))

  at_b : (first : Bool) → is_active t l a ≡ first → part_of b (first_word l (if first then a else b)) ≡ (if not first then first_word l b else [])
  at_b false e = part_all b (first_word l b) (by-said l b (Initialization ∷ []))
  at_b true e = part_none a b (first_word l a) (λ q. differ l below q) (by-said l a (Initialization ∷ []))

  -- the Initialization is sent by the active end
  opener-says : (m : ℕ) → is_end (wiring_of t) l m ≡ true → part_of m (first_word l (opener t l)) ≡ (if is_active t l m then first_word l m else [])
  opener-says m e = elim (end_is (wiring_of t) l m e) [
    | inl p ↦ subst (λ n. part_of n (first_word l (opener t l)) ≡ (if is_active t l n then first_word l n else [])) p (at_a (is_active t l a) refl)
    | inr p ↦ subst (λ n. part_of n (first_word l (opener t l)) ≡ (if is_active t l n then first_word l n else [])) p
        (at_b (is_active t l a) refl ∙ ap (λ x. if x then first_word l b else []) (sym (active_b t l apart joins differ below)))
  ]

  opener_is_end : is_end (wiring_of t) l (opener t l) ≡ true
  opener_is_end = either (is_active t l a)
    where
      either : (first : Bool) → is_end (wiring_of t) l (if first then (link (wiring_of t) l).a.0 else (link (wiring_of t) l).b.0) ≡ true
      either true = is_end-a (wiring_of t) l
      either false = is_end-b (wiring_of t) l

  pub opening_if : (new : Config) (alive : Bool) → lives new l ≡ alive → opening t new l ≡ (if alive then first_word l (opener t l) else [])
  opening_if new true h = ap (λ x. elim x as (λ _. List Said) [ true ↦ first_word l (opener t l) | false ↦ [] ]) h
  opening_if new false h = ap (λ x. elim x as (λ _. List Said) [ true ↦ first_word l (opener t l) | false ↦ [] ]) h

  -- what is sent as a life begins, by one node
  opening-by : (c new : Config) (v : Views) (s : Sessions) (m : ℕ) (at was is : Bool) → is_end (wiring_of t) l m ≡ at → lives c l ≡ was → lives new l ≡ is →
      (was ≡ true → is ≡ false)
      → part_of m (opening t new l) ≡ answers_any (wiring_of t) (node_of t c v s m) (if at then turned l was is else None)
  opening-by c new v s m at was false e f g once = ap (part_of m) (opening_if new false g) ∙ nothing at was
    where
      nothing : (at was : Bool) → [] ≡ answers_any (wiring_of t) (node_of t c v s m) (if at then turned l was false else None)
      nothing false was = refl
      nothing true false = refl
      nothing true true = refl
  opening-by c new v s m at true true e f g once = absurd (clash (once refl))
  opening-by c new v s m false false true e f g once =
      ap (part_of m) (opening_if new true g)
      ∙ part_none (opener t l) m (first_word l (opener t l)) (λ q. clash (sym opener_is_end ∙ ap (is_end (wiring_of t) l) q ∙ e))
      (by-said l (opener t l) (Initialization ∷ []))
  opening-by c new v s m true false true e f g once = ap (part_of m) (opening_if new true g) ∙ opener-says m e

  -- a step that begins or ends the life of a link's session
  pub life-part : (c new : Config) (v nv : Views) (s : Sessions) (m : ℕ) → m < length t.loopbacks → nv.learned m ≡ v.learned m →
      ((k : ℕ) → k ≢ l → lives new k ≡ lives c k) → (lives c l ≡ true → lives new l ≡ false)
      → part_of m
      (opening t new l ++ flat_map
      (λ n. news (wiring_of t) (knowledge_of (wiring_of t) c v s n) (knowledge_of (wiring_of t) new nv (ldp_restarted s l) n) n)
      (ends_first (wiring_of t) l))
      ≡ said_any (wiring_of t) (node_of t c v s m) (if is_end (wiring_of t) l m then turned l (lives c l) (lives new l) else None)
  life-part c new v nv s m there learned others once =
      part-is t c new v nv s (ldp_restarted s l) m (if is_end (wiring_of t) l m then turned l (lives c l) (lives new l) else None) (opening t new l)
      (flat_map (λ n. news (wiring_of t) (knowledge_of (wiring_of t) c v s n) (knowledge_of (wiring_of t) new nv (ldp_restarted s l) n) n)
      (ends_first (wiring_of t) l))
      (opening-by c new v s m (is_end (wiring_of t) l m) (lives c l) (lives new l) refl refl refl once)
      (part_of_ends (λ n. news (wiring_of t) (knowledge_of (wiring_of t) c v s n) (knowledge_of (wiring_of t) new nv (ldp_restarted s l) n) n)
      (λ n. by-news (wiring_of t) (knowledge_of (wiring_of t) c v s n) (knowledge_of (wiring_of t) new nv (ldp_restarted s l) n) n) m (wiring_of t) l
      (differ l below) there)
      (life t c new v nv s l m learned others once)
