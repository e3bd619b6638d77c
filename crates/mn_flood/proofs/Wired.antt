-- A topology's links, and the lists of those at each node.
use Rattle.std.proofs.Common.{ℕ, zero, suc, ◌≡◌, ◌≢◌, ◌+◌, ◌<◌, ◌≤◌, inl, inr, Bool, true, false, cond, List, [], ◌∷◌, ◌++◌, map, filter, length, get_or, set}
use Rattle.std.proofs.Common.{replicate}
use Rattle.std.proofs.Common.{refl, arith, sym, ◌∙◌, ap, subst, get_or-set_same, get_or-set_other}
use Rattle.std.specs.Prelude.{◌==◌, ◌||◌, All}
use Rattle.std.specs.List.{range_with_len}
use Rattle.std.proofs.lemmas.Bool.Decides.{eqb_tells}
use Rattle.std.proofs.lemmas.List.{get_or-replicate, length-set, length-replicate, map-append, append-nil}
use Rattle.std.proofs.lemmas.List.Elements.{filter-append}
use Rattle.mn_base.proofs.Bools.{and_left, and_right, less_tells, at_most_tells, or_left, or_right, same_test}
use Rattle.mn_base.specs.declared.numbers.LinkNo.{LinkNo}
use Rattle.mn_wiring.specs.declared.links.LinkEnds.{LinkEnds}
use Rattle.mn_wiring.specs.Wiring.{Wiring, link, is_end, links_of, links_at}
use Rattle.std.proofs.lemmas.List.FromFn.{length-range_with_len}
use Rattle.mn_base.proofs.Members.{In}
use Rattle.mn_flood_laws.proofs.Ends.{node_at}
use Rattle.mn_flood_laws.proofs.Sums.{filter_fewer}
use Rattle.mn_linkdb.specs.Network.{IsLink}
use Rattle.mn_topo.specs.Network.{Network, wiring_of, nodes_with}
use Rattle.mn_topo.specs.declared.nodes.Node.{Node}
use Rattle.mn_topo.specs.Lawful.{IsLawful, joins_two_of, has_figures}
use Rattle.mn_topo.proofs.Wirings.{passes_at}
use Rattle.mn_flood.specs.Links.{numbers_of, IsWired, AreLinks}

-- 1. A lawful topology's links are those of a network

one_or_more : (cost : ℕ) → 1 ≤ cost → 0 < cost
one_or_more cost h = omega (arith, h)

at_most : (cost : ℕ) → cost ≤ 65535 → cost < 65536
at_most cost h = omega (arith, h)

is_link : (nodes : ℕ) (ends : LinkEnds) → joins_two_of nodes ends ≡ true → has_figures ends ≡ true → IsLink nodes ends
is_link nodes ends h g =
    let both = and_left _ _ h in
    let cost = and_left _ _ (and_left _ _ (and_left _ _ g)) in
    record {
      from = less_tells ends.a.0 nodes (and_left _ _ both);
      to = less_tells ends.b.0 nodes (and_right _ _ both);
      positive = one_or_more ends.cost (at_most_tells 1 ends.cost (and_left _ _ cost));
      bounded = at_most ends.cost (at_most_tells ends.cost 65535 (and_right _ _ cost));
    }

pub wired : (t : Network) → IsLawful t → IsWired (wiring_of t)
wired t lawful = record {
  network = record {
    few_nodes = lawful.few_nodes;
    few_links = lawful.few_links;
    links = λ k d h. is_link (length t.loopbacks) (get_or t.links k d) (passes_at (joins_two_of (length t.loopbacks)) t.links k d lawful.links.joining h)
        (passes_at has_figures t.links k d lawful.links.figures h);
  };
  joins = lawful.joins_nodes;
  differ = lawful.ends_differ;
}

-- 2. Its loopbacks

pub loopbacks_again : (loopbacks : List ℕ) → map (λ (node : Node). node.loopback) (nodes_with loopbacks) ≡ loopbacks
loopbacks_again [] = refl
loopbacks_again (x ∷ xs) = ap (λ ys. x ∷ ys) (loopbacks_again xs)

pub wiring_again : (t : Network) (loopbacks : List ℕ) (ends : List LinkEnds) (nodes : List Node) → nodes ≡ nodes_with t.loopbacks →
    loopbacks ≡ map (λ (node : Node). node.loopback) nodes →
    ends ≡ t.links → record { loopbacks = loopbacks; ends = ends } ≡ wiring_of t
wiring_again t loopbacks ends nodes n l e =
    ap (λ ls. record { loopbacks = ls; ends = ends }) (l ∙ ap (map (λ (node : Node). node.loopback)) n ∙ loopbacks_again t.loopbacks)
    ∙ ap (λ es. record { loopbacks = t.loopbacks; ends = es }) e

-- 3. The links at each node, found one after another

-- of the links before this one, those at each node
pub record AreBelow (wiring : Wiring) (k : ℕ) (lists : List (List LinkNo)) : Type 0 where
  pub one_each : length lists ≡ length wiring.loopbacks
  pub at : (node : ℕ) → node < length wiring.loopbacks → numbers_of (get_or lists node []) ≡ filter (λ l. is_end wiring l node) (range_with_len 0 k)

pub none_below : (wiring : Wiring) (lists : List (List LinkNo)) (count : ℕ) → lists ≡ replicate count [] → count ≡ length wiring.loopbacks →
    AreBelow wiring 0 lists
none_below wiring lists count e q = record {
  one_each = ap (λ (ls : List (List LinkNo)). length ls) e ∙ length-replicate count _ ∙ q;
  at = λ node h. ap (λ (ls : List (List LinkNo)). numbers_of (get_or ls node [])) e ∙ ap numbers_of (get_or-replicate count node [] [] (omega (arith, h, q)));
}

-- a link is appended to the list of one node
abbrev pub put : List (List LinkNo) → ℕ → LinkNo → List (List LinkNo)
put lists m x = set lists m (get_or lists m [] ++ x ∷ [])

range_more : (a k : ℕ) → range_with_len a (suc k) ≡ range_with_len a k ++ (a + k) ∷ []
range_more a zero = ap (λ n. n ∷ []) (omega arith)
range_more a (suc k) = ap (λ xs. a ∷ xs) (range_more (a + 1) k ∙ ap (λ n. range_with_len (a + 1) k ++ n ∷ []) (omega arith))

pub one_more : (p : ℕ → Bool) (k : ℕ) → filter p (range_with_len 0 (k + 1)) ≡ filter p (range_with_len 0 k) ++ cond (p k) (k ∷ []) []
one_more p k =
    ap (λ n. filter p (range_with_len 0 n)) (let e : k + 1 ≡ suc k = omega arith in e)
    ∙ ap (filter p) (range_more 0 k ∙ ap (λ n. range_with_len 0 k ++ n ∷ []) (let e : 0 + k ≡ k = omega arith in e))
    ∙ filter-append p (range_with_len 0 k) (k ∷ [])

put_here : (lists : List (List LinkNo)) (m k : ℕ) → m < length lists →
    numbers_of (get_or (put lists m (record { 0 = k })) m []) ≡ numbers_of (get_or lists m []) ++ k ∷ []
put_here lists m k h =
    ap numbers_of (get_or-set_same lists m (get_or lists m [] ++ record { 0 = k } ∷ []) [] h)
    ∙ map-append (λ (l : LinkNo). l.0) (get_or lists m []) (record { 0 = k } ∷ [])

put_there : (lists : List (List LinkNo)) (m node k : ℕ) → node ≢ m →
    numbers_of (get_or (put lists m (record { 0 = k })) node []) ≡ numbers_of (get_or lists node [])
put_there lists m node k apart = ap numbers_of (get_or-set_other lists m node (get_or lists m [] ++ record { 0 = k } ∷ []) [] apart)

neither : (a b node : ℕ) → node ≢ a → node ≢ b → ((a == node) || (b == node)) ≡ false
neither a b node h g = elim (eqb_tells a node) [
  | inl e ↦ absurd (h (sym e.1))
  | inr e ↦ elim (eqb_tells b node) [
    | inl f ↦ absurd (g (sym f.1))
    | inr f ↦ ap (λ c. c || (b == node)) e.0 ∙ f.0
  ]
]

module _ (wiring : Wiring) (k a b : ℕ) (is_a : a ≡ (link wiring k).a.0) (is_b : b ≡ (link wiring k).b.0) (differ : a ≢ b) (lists : List (List LinkNo))
    (below : AreBelow wiring k lists)
    (a_there : a < length lists) (b_there : b < length lists) where
  abbrev once : List (List LinkNo)
  once = put lists a (record { 0 = k })

  abbrev twice : List (List LinkNo)
  twice = put once b (record { 0 = k })

  ends_at : (node : ℕ) → is_end wiring k node ≡ ((a == node) || (b == node))
  ends_at node = ap (λ x. (x == node) || ((link wiring k).b.0 == node)) (sym is_a) ∙ ap (λ x. (a == node) || (x == node)) (sym is_b)

  one_longer : (node : ℕ) → node < length wiring.loopbacks → ((a == node) || (b == node)) ≡ true →
      numbers_of (get_or lists node []) ++ k ∷ [] ≡ filter (λ l. is_end wiring l node) (range_with_len 0 (k + 1))
  one_longer node h e =
      ap (λ xs. xs ++ k ∷ []) (below.at node h)
      ∙ ap (λ c. filter (λ l. is_end wiring l node) (range_with_len 0 k) ++ cond c (k ∷ []) []) (sym (ends_at node ∙ e))
      ∙ sym (one_more (λ l. is_end wiring l node) k)

  as_long : (node : ℕ) → node < length wiring.loopbacks → ((a == node) || (b == node)) ≡ false →
      numbers_of (get_or lists node []) ≡ filter (λ l. is_end wiring l node) (range_with_len 0 (k + 1))
  as_long node h e =
      below.at node h ∙ sym (append-nil (filter (λ l. is_end wiring l node) (range_with_len 0 k)))
      ∙ ap (λ c. filter (λ l. is_end wiring l node) (range_with_len 0 k) ++ cond c (k ∷ []) []) (sym (ends_at node ∙ e))
      ∙ sym (one_more (λ l. is_end wiring l node) k)

  at_node : (node : ℕ) → node < length wiring.loopbacks → numbers_of (get_or twice node []) ≡ filter (λ l. is_end wiring l node) (range_with_len 0 (k + 1))
  at_node node h = elim (eqb_tells node b) [
    | inl e ↦
        ap (λ n. numbers_of (get_or twice n [])) e.1
        ∙ put_here once b k (subst (λ n. b < n) (sym (length-set lists a _)) b_there)
        ∙ ap (λ xs. xs ++ k ∷ []) (put_there lists a b k (λ q. differ (sym q)) ∙ ap (λ n. numbers_of (get_or lists n [])) (sym e.1))
        ∙ one_longer node h (or_right (a == node) (b == node) (ap (λ n. b == n) e.1 ∙ same_test b))
    | inr e ↦ put_there once b node k e.1 ∙ elim (eqb_tells node a) [
      | inl f ↦
          ap (λ n. numbers_of (get_or once n [])) f.1 ∙ put_here lists a k a_there
          ∙ ap (λ n. numbers_of (get_or lists n []) ++ k ∷ []) (sym f.1)
          ∙ one_longer node h (or_left (a == node) (b == node) (ap (λ n. a == n) f.1 ∙ same_test a))
      | inr f ↦ put_there lists a node k f.1 ∙ as_long node h (neither a b node f.1 e.1)
    ]
  ]

  pub both_put : AreBelow wiring (k + 1) twice
  both_put = record {
    one_each = length-set once b _ ∙ length-set lists a _ ∙ below.one_each;
    at = at_node;
  }

pub all_below : (wiring : Wiring) (k : ℕ) (lists : List (List LinkNo)) → IsWired wiring → k ≡ length wiring.ends → AreBelow wiring k lists →
    AreLinks wiring lists
all_below wiring k lists w e below = record {
  wired = w;
  one_each = below.one_each;
  at = λ node h. below.at node h ∙ ap (λ n. filter (λ l. is_end wiring l node) (range_with_len 0 n)) e;
}

-- 4. What is read of them

within_all : (wiring : Wiring) (node : ℕ) (links : List LinkNo) → numbers_of links ≡ links_at wiring node → (k : ℕ) (d : LinkNo) → k < length links →
    (get_or links k d).0 < length wiring.ends
within_all wiring node links e k d h = (node_at wiring (get_or links k d).0 node (subst (λ ns. In ns (get_or links k d).0) e (number_in links k d h))).0
  where
    number_in : (links : List LinkNo) (k : ℕ) (d : LinkNo) → k < length links → In (numbers_of links) (get_or links k d).0
    number_in [] k d h = absurd (nothing k h)
      where
        nothing : (k : ℕ) → k < 0 → ⊥
        nothing k h = omega (arith, h)
    number_in (x ∷ xs) zero d h = inl refl
    number_in (x ∷ xs) (suc k) d h = inr (number_in xs k d (omega (arith, h)))

pub links_within : (wiring : Wiring) (node : ℕ) (links : List LinkNo) → numbers_of links ≡ links_at wiring node →
    All (λ (l : LinkNo). l.0 < length wiring.ends) links
links_within wiring node links e = within_all wiring node links e

pub links_few : (wiring : Wiring) (node : ℕ) (links : List LinkNo) → numbers_of links ≡ links_at wiring node → length links ≤ length wiring.ends
links_few wiring node links e =
    omega (arith, numbered links, ap length e, filter_fewer (λ l. is_end wiring l node) (links_of wiring), length-range_with_len 0 (length wiring.ends))
  where
    numbered : (xs : List LinkNo) → length (numbers_of xs) ≡ length xs
    numbered [] = refl
    numbered (x ∷ xs) = ap suc (numbered xs)
