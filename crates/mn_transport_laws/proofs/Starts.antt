-- A new transport stands for the empty journal.
use Rattle.std.proofs.Common.{ℕ, zero, suc, ◌≡◌, ◌≢◌, ◌+◌, ◌*◌, ◌^◌, ◌<◌, ◌≤◌, ◌⊎◌, inl, inr, Bool, true, false, not, cond, List, [], ◌∷◌, ◌++◌, length, map}
use Rattle.std.proofs.Common.{filter, replicate, refl, arith, sym, ◌∙◌, ap, subst, None, Some, length-set, append-nil, add-one}
use Rattle.std.specs.Prelude.{◌==◌, ◌&&◌, max, nat_lt, nat_le, slice_get, slice_set, slice_index_or}
use Rattle.std.specs.List.{range_with_len}
use Rattle.std.proofs.lemmas.Bool.Decides.{eqb_tells}
use Rattle.std.proofs.lemmas.List.{length-replicate, map-append}
use Rattle.std.proofs.lemmas.List.Elements.{filter-append}
use Rattle.std.proofs.lemmas.List.FromFn.{length-map-range_with_len, get_or-map-range_with_len}
use Rattle.std.proofs.lemmas.Option.{same_Some, slice_get_within}
use Rattle.mn_wiring.specs.Wiring.{across, is_end, links_at}
use Rattle.mn_wiring.specs.declared.links.LinkEnds.{LinkEnds}
use Rattle.mn_base.proofs.Bools.{and_left, and_right, same_test, other_test, less_tells, at_most_tells}
use Rattle.mn_base.proofs.Members.{In, in_filter, in_range}
use Rattle.mn_flight.specs.declared.Item.{Item}
use Rattle.mn_flight.specs.Flying.{on_channel}
use Rattle.mn_linkdb.specs.Network.{IsLink}
use Rattle.mn_labels.specs.declared.meaning.Bind.{Bind}
use Rattle.mn_labels.specs.Labels.{Labels, none_given, greatest, attached, meaning_of}
use Rattle.mn_lfib.specs.declared.answer.Use.TheVariants as used_for
use Rattle.mn_lfib.specs.Uses.{use_of}
use Rattle.mn_releases.specs.Rests.{at_first, row_of}
use Rattle.mn_node.specs.Machine.{fresh_node}
use Rattle.mn_topo.specs.Network.{Network, wiring_of, nodes_with}
use Rattle.mn_topo.specs.declared.nodes.Node.{Node}
use Rattle.mn_topo.specs.Lawful.{IsLawful, joins_two_of, has_figures}
use Rattle.mn_topo.proofs.Wirings.{passes_at}
use Rattle.mn_ledger.specs.Packets.{channel}
use Rattle.mn_ledger.specs.Places.{home_of}
use Rattle.mn_ledger.specs.Transport.{lives}
use Rattle.mn_ledger.specs.Ledger.{start}
use Rattle.mn_ledger.proofs.Mentions.{operational-is}
use Rattle.mn_settled_laws.specs.Offers.{is_operational_on}
use Rattle.mn_slice_laws.specs.Slice.{node_at}
use Rattle.mn_slice_laws.proofs.Nodes.{begins}
use Rattle.mn_reuse_laws.specs.Labels.{first_given, first_labels, labels_of, longest_life}
use Rattle.mn_reuse_laws.specs.Relabelled.{node_with, sessions_with}
use Rattle.mn_reuse_laws.specs.Resting.{rested_of}
use Rattle.mn_frame_laws.specs.Given.{HasLabel, given, label_given, label_in, label_at, attachment_of}
use Rattle.mn_frame_laws.specs.Tables.{site_entry}
use Rattle.mn_frame_laws.proofs.Bridge.{given_fit}
use Rattle.mn_frame_laws.proofs.Labels.{is_meant, has_means}
use Rattle.mn_frame_laws.proofs.Attaching.{least}
use Rattle.mn_frame_laws.proofs.Anew.{site_of, gives_to_each, gives_to_no_other}
use Rattle.mn_lsr.specs.Standing.{Standing, IsWired, TableStands, attachments}
use Rattle.mn_transport_laws.specs.Carried.{Carried}
use Rattle.mn_transport_laws.specs.declared.notice.Notice.{Notice}
use Rattle.mn_transport_laws.specs.Resting.{HasRow, IsResting}
use Rattle.mn_transport_laws.specs.Stands.{own_of, IsNode, IsTransport}
use Rattle.mn_transport_laws.specs.Starting.{first_label, sites_among, IsFirst, AreFirst}
use Rattle.mn_transport_laws.proofs.Attaching.{IsAttached}
use Rattle.mn_transport_laws.proofs.Lists.{Each, each-set}
use Rattle.mn_transport_laws.proofs.Tables.{table-is}
use Rattle.mn_transport_laws.proofs.Wired.{spelled}

-- 1. The network is one that a node asks for

is-link : (nodes : ℕ) (link : LinkEnds) → joins_two_of nodes link ≡ true → has_figures link ≡ true → IsLink nodes link
is-link nodes link joins figures =
    let both = and_left (nat_lt link.a.0 nodes && nat_lt link.b.0 nodes) (not (link.a.0 == link.b.0)) joins in
    let costs = and_left (nat_le 1 link.cost && nat_le link.cost 65535) (nat_le 1 link.delay && nat_le link.delay 1000)
    (and_left ((nat_le 1 link.cost && nat_le link.cost 65535) && (nat_le 1 link.delay && nat_le link.delay 1000))
    (nat_le 0 link.loss && nat_le link.loss 65535)
    (and_left _ _ figures)) in
    let least = at_most_tells 1 link.cost (and_left (nat_le 1 link.cost) (nat_le link.cost 65535) costs) in
    let most = at_most_tells link.cost 65535 (and_right (nat_le 1 link.cost) (nat_le link.cost 65535) costs) in
    record {
      from = less_tells link.a.0 nodes (and_left (nat_lt link.a.0 nodes) (nat_lt link.b.0 nodes) both);
      to = less_tells link.b.0 nodes (and_right (nat_lt link.a.0 nodes) (nat_lt link.b.0 nodes) both);
      positive = omega (arith, least);
      bounded = omega (arith, most);
    }

pub wired : (t : Network) → IsLawful t → IsWired (wiring_of t)
wired t lawful = record {
  network = record {
    few_nodes = lawful.few_nodes;
    few_links = lawful.few_links;
    links = λ l d h.
        is-link (length t.loopbacks) (slice_index_or t.links l d) (passes_at (joins_two_of (length t.loopbacks)) t.links l d lawful.links.joining h)
        (passes_at has_figures t.links l d lawful.links.figures h);
  };
  few_links = lawful.few_links;
  joins = lawful.joins_nodes;
  differ = lawful.ends_differ;
  once = lawful.joins_once;
  spelled = spelled t lawful;
}

pub loopbacks-are : (loopbacks : List ℕ) → map (λ (node : Node). node.loopback) (nodes_with loopbacks) ≡ loopbacks
loopbacks-are [] = refl
loopbacks-are (loopback ∷ loopbacks) = ap (λ xs. loopback ∷ xs) (loopbacks-are loopbacks)

-- 2. Lists

module _ {A : Type 0} where
  push-cases : (xs : List A) (x : A) (k : ℕ) (y : A) → slice_get (xs ++ x ∷ []) k ≡ Some y → (slice_get xs k ≡ Some y) ⊎ ((k ≡ length xs) × (x ≡ y))
  push-cases [] x zero y e = inr (refl, same_Some x y e)
  push-cases [] x (suc k) y e = absurd (none e)
    where
      none : None ≡ Some y → ⊥
      none e = cc
  push-cases (z ∷ zs) x zero y e = inl e
  push-cases (z ∷ zs) x (suc k) y e = elim (push-cases zs x k y e) [ inl h ↦ inl h | inr h ↦ inr (ap suc h.0, h.1) ]

  pub each-push : (P : ℕ → A → Type 0) (xs : List A) (x : A) → Each P xs → P (length xs) x → Each P (xs ++ x ∷ [])
  each-push P xs x each new k y is = elim (push-cases xs x k y is) [
    | inl h ↦ each k y h
    | inr h ↦ subst (P k) h.1 (subst (λ n. P n x) (sym h.0) new)
  ]

  constant : (c : A) (n a : ℕ) → map (λ (k : ℕ). c) (range_with_len a n) ≡ replicate n c
  constant c zero a = refl
  constant c (suc n) a = ap (λ xs. c ∷ xs) (constant c n (a + 1))

range-more : (n a j : ℕ) → a + n ≡ j → range_with_len a (suc n) ≡ range_with_len a n ++ j ∷ []
range-more zero a j e = ap (λ x. x ∷ []) (let q : a ≡ j = omega (arith, e) in q)
range-more (suc n) a j e = ap (λ xs. a ∷ xs) (range-more n (a + 1) j (omega (arith, e)))

-- one list element more, of a table by number
pub map-more : {A : Type 0} (f : ℕ → A) (xs : List A) (k : ℕ) → xs ≡ map f (range_with_len 0 k) → xs ++ f k ∷ [] ≡ map f (range_with_len 0 (k + 1))
map-more f xs k e =
    ap (λ ys. ys ++ f k ∷ []) e
    ∙ sym (ap (λ n. map f (range_with_len 0 n)) (add-one k) ∙ ap (map f) (range-more k 0 k (omega arith)) ∙ map-append f (range_with_len 0 k) (k ∷ []))

-- 3. The first labels

-- as many as there are, one after another
greatest-from : (xs : List ℕ) (a : ℕ) → 15 ≤ a → max a (greatest (first_given (a + 1) xs)) ≡ a + length xs
greatest-from [] a h = omega (arith, h)
greatest-from (x ∷ xs) a h =
    let rest = greatest-from xs (a + 1) (omega (arith, h)) in
    over (greatest (first_given (a + 1 + 1) xs)) (length xs) rest
  where
    over : (c n : ℕ) → max (a + 1) c ≡ a + 1 + n → max a (max (a + 1) c) ≡ a + suc n
    over c n e = omega (arith, e)

greatest-first : (xs : List ℕ) → greatest (first_given 16 xs) ≡ 15 + length xs
greatest-first xs = under (greatest (first_given 16 xs)) (least (first_given 16 xs)) (greatest-from xs 15 (omega arith))
  where
    under : (g : ℕ) → 15 ≤ g → max 15 g ≡ 15 + length xs → g ≡ 15 + length xs
    under g h e = omega (arith, h, e)

first-more : (xs : List ℕ) (k a : ℕ) →
    first_given a (xs ++ k ∷ []) ≡ first_given a xs ++ record { label = a + length xs; what = attachment_of k 1 } ∷ []
first-more [] k a = ap (λ n. record { label = n; what = attachment_of k 1 } ∷ []) (plain a)
  where
    plain : (n : ℕ) → n ≡ n + 0
    plain n = omega arith
first-more (x ∷ xs) k a =
    ap (λ gs. record { label = a; what = attachment_of x 1 } ∷ gs)
    (first-more xs k (a + 1) ∙ ap (λ n. first_given (a + 1) xs ++ record { label = n; what = attachment_of k 1 } ∷ []) (along a (length xs)))
  where
    along : (n m : ℕ) → n + 1 + m ≡ n + suc m
    along n m = omega arith

-- the label of a site is past those of the sites before it
label-among : (p : ℕ → Bool) (site n m b : ℕ) → b + m ≡ site → m < n → p site ≡ true → (a : ℕ) →
    label_given (attachment_of site 1) (first_given a (filter p (range_with_len b n))) ≡ a + length (filter p (range_with_len b m))
label-among p site zero m b e h is a = absurd (none h)
  where
    none : m < 0 → ⊥
    none h = omega (arith, h)
label-among p site (suc n) zero b e h is a =
    let q : b ≡ site = omega (arith, e) in
    let here : p b ≡ true = subst (λ x. p x ≡ true) (sym q) is in
    let test : (site == b) ≡ true = ap (λ x. site == x) q ∙ same_test site in
    rw (here, test) (omega arith)
label-among p site (suc n) (suc m) b e h is a =
    either (p b) (other_test site b (λ q. past q)) (label-among p site n m (b + 1) (omega (arith, e)) (omega (arith, h)) is)
  where
    past : site ≡ b → ⊥
    past q = omega (arith, q, e)

    either : (c : Bool) → (site == b) ≡ false →
        ((a : ℕ) → label_given (attachment_of site 1) (first_given a (filter p (range_with_len (b + 1) n))) ≡ a + length (filter p (range_with_len (b + 1) m)))
        →
        label_given (attachment_of site 1) (first_given a (cond c (b ∷ filter p (range_with_len (b + 1) n)) (filter p (range_with_len (b + 1) n))))
        ≡ a + length (cond c (b ∷ filter p (range_with_len (b + 1) m)) (filter p (range_with_len (b + 1) m)))
    either true q rest = let more = rest (a + 1) in rw q (omega (arith, more))
    either false q rest = rest a

none-of : (site : ℕ) (xs : List ℕ) (a : ℕ) → (In xs site → ⊥) → attachments site (first_given a xs) ≡ 0
none-of site [] a none = refl
none-of site (x ∷ xs) a none = let other : (x == site) ≡ false = other_test x site (λ e. none (inl e)) in rw other (none-of site xs (a + 1) (λ i. none (inr i)))

nothing-at : {A : Type 0} (x : A) (n k : ℕ) → slice_index_or (replicate n x) k x ≡ x
nothing-at x zero k = refl
nothing-at x (suc n) zero = refl
nothing-at x (suc n) (suc k) = nothing-at x n k

module _ (t : Network) where
  given-first : (node : ℕ) → given t [] node ≡ first_labels t node
  unfolding given labels_of
  given-first node = refl

  abbrev given_so_far : ℕ → ℕ → Labels
  given_so_far k node = record { given = first_given 16 (sites_among t k node); fecs = replicate (length t.loopbacks) None }

  -- a site's first label is the next one of its edge, once the sites before it have theirs
  next-first : (k : ℕ) → k < length t.sites → greatest (given_so_far k (home_of t k)).given + 1 ≡ first_label t k
  next-first k h =
      let node : ℕ = home_of t k in
      let all = ap (λ (labels : Labels). label_given (attachment_of k 1) labels.given) (given-first node) in
      let its = label-among (λ s. home_of t s == node) k (length t.sites) k 0 (omega arith) h (same_test node) 16 in
      let before = greatest-first (sites_among t k node) in
      omega (arith, all, its, before)

  has-first : (site : ℕ) → site < length t.sites → HasLabel (given t [] (home_of t site)) (attachment_of site 1)
  has-first site h = gives_to_each t [] site 1 (record { home = refl; there = h; first = omega arith; last = omega arith })

  one_bind : (node : ℕ) (one other : Bind) → HasLabel (given t [] node) one → HasLabel (given t [] node) other →
      label_in (given t [] node) one ≡ label_in (given t [] node) other → one ≡ other
  one_bind node one other there here same =
      same_Some one other (sym (is_meant (given t [] node) (given_fit t [] node) (label_in (given t [] node) one) one (has_means (given t [] node) one there))
      ∙ ap (meaning_of (given t [] node)) same
      ∙ is_meant (given t [] node) (given_fit t [] node) (label_in (given t [] node) other) other (has_means (given t [] node) other here))

  -- two sites of a node have two labels
  labels-apart : (one other : ℕ) → one < length t.sites → other < length t.sites → home_of t one ≡ home_of t other →
      first_label t one ≡ first_label t other → one ≡ other
  labels-apart one other h g home same =
      ap site_of
      (one_bind (home_of t other) (attachment_of one 1) (attachment_of other 1)
      (subst (λ node. HasLabel (given t [] node) (attachment_of one 1)) home (has-first one h)) (has-first other g)
      (sym (ap (λ node. label_in (given t [] node) (attachment_of one 1)) home) ∙ same))

  none-yet : (k node : ℕ) → attachments k (given_so_far k node).given ≡ 0
  none-yet k node = none-of k (sites_among t k node) 16 (λ i. past (in_range 0 k k (in_filter (λ s. home_of t s == node) (range_with_len 0 k) k i).0).1)
    where
      past : k < 0 + k → ⊥
      past h = omega (arith, h)

  among-more : (k node : ℕ) → home_of t k ≡ node → sites_among t (k + 1) node ≡ sites_among t k node ++ k ∷ []
  among-more k node e =
      ap (λ n. filter (λ s. home_of t s == node) (range_with_len 0 n)) (add-one k) ∙ ap (filter (λ s. home_of t s == node)) (range-more k 0 k (omega arith))
      ∙ filter-append (λ s. home_of t s == node) (range_with_len 0 k) (k ∷ [])
      ∙ ap (λ b. sites_among t k node ++ cond b (k ∷ []) []) (ap (λ n. n == node) e ∙ same_test node)

  among-same : (k node : ℕ) → home_of t k ≢ node → sites_among t (k + 1) node ≡ sites_among t k node
  among-same k node d =
      ap (λ n. filter (λ s. home_of t s == node) (range_with_len 0 n)) (add-one k) ∙ ap (filter (λ s. home_of t s == node)) (range-more k 0 k (omega arith))
      ∙ filter-append (λ s. home_of t s == node) (range_with_len 0 k) (k ∷ [])
      ∙ ap (λ b. sites_among t k node ++ cond b (k ∷ []) []) (other_test (home_of t k) node d) ∙ append-nil (sites_among t k node)

  -- 4. Nodes

  pub first-node : (node : ℕ) (x : Standing) → x ≡ record {
    wiring = wiring_of t;
    node = fresh_node (wiring_of t) node;
    labels = none_given (length t.loopbacks);
    resting = at_first (length t.loopbacks) (longest_life t (links_at (wiring_of t) node));
    uses = [];
    failed =
        false;
  } → TableStands x → IsFirst t 0 node x
  first-node node x is table = record {
    wiring = ap (λ s. s.wiring) is;
    node_is = ap (λ s. s.node) is;
    labels = ap (λ s. s.labels) is;
    in_range = subst (λ (s : Standing). greatest s.labels.given < 2 ^ 20) (sym is) (omega arith);
    resting = ap (λ s. s.resting) is;
    table = table;
    sites = λ site h home. absurd (none site h);
    works = ap (λ s. s.failed) is;
  }
    where
      none : (site : ℕ) → site < 0 → ⊥
      none site h = omega (arith, h)

  module _ (k : ℕ) (there : k < length t.sites) (nodes : List Standing) (first : AreFirst t k nodes) (was now : Standing) (label : ℕ)
      (here : slice_get nodes (home_of t k) ≡ Some was) (did : IsAttached (record { 0 = k }) was now label) where
    is : IsFirst t k (home_of t k) was
    is = first.nodes (home_of t k) was here

    pub label-first : label ≡ first_label t k
    label-first = did.label_is ∙ ap (λ (labels : Labels). greatest labels.given + 1) is.labels ∙ next-first k there

    site-now : (site : ℕ) → site < k + 1 → home_of t site ≡ home_of t k → use_of now.uses (first_label t site) ≡ Some (used_for.Site (record { 0 = site }))
    site-now site h home = elim (eqb_tells site k) [
      | inl q ↦ subst (λ x. use_of now.uses (first_label t x) ≡ Some (used_for.Site (record { 0 = x }))) (sym q.1)
          (ap (use_of now.uses) (sym label-first) ∙ did.used)
      | inr q ↦
          (let low : site < k = omega (arith, h, q.1) in
          did.others (first_label t site) (λ e. q.1 (labels-apart site k (omega (arith, low, there)) there home (e ∙ label-first))) ∙ is.sites site low home)
    ]

    edge-first : IsFirst t (k + 1) (home_of t k) now
    edge-first = record {
      wiring = ap (λ x. x.wiring) did.kept ∙ is.wiring;
      node_is = ap (λ x. x.node) did.kept ∙ is.node_is;
      labels = did.labels_are
          ∙ ap (λ (labels : Labels). attached labels (attachment_of k (attachments k labels.given + 1))) is.labels
          ∙ ap (λ n. attached (given_so_far k (home_of t k)) (attachment_of k (n + 1))) (none-yet k (home_of t k))
          ∙ ap (λ gs. let labels : Labels = record { given = gs; fecs = replicate (length t.loopbacks) None } in labels)
          (ap (λ n. (given_so_far k (home_of t k)).given ++ record { label = n; what = attachment_of k 1 } ∷ []) (past-all (sites_among t k (home_of t k)))
          ∙ sym (first-more (sites_among t k (home_of t k)) k 16) ∙ ap (first_given 16) (sym (among-more k (home_of t k) refl)));
      in_range = did.in_range;
      resting = ap (λ x. x.resting) did.kept ∙ is.resting;
      table = did.table;
      sites = site-now;
      works = ap (λ x. x.failed) did.kept ∙ is.works;
    }
      where
        past-all : (xs : List ℕ) → greatest (first_given 16 xs) + 1 ≡ 16 + length xs
        past-all xs = let g = greatest-first xs in omega (arith, g)

    other-first : (node : ℕ) (x : Standing) → node ≢ home_of t k → IsFirst t k node x → IsFirst t (k + 1) node x
    other-first node x apart was = record {
      wiring = was.wiring;
      node_is = was.node_is;
      labels = was.labels ∙ ap (λ sites. let labels : Labels = record { given = first_given 16 sites; fecs = replicate (length t.loopbacks) None } in labels)
          (sym (among-same k node (λ e. apart (sym e))));
      in_range = was.in_range;
      resting = was.resting;
      table = was.table;
      sites = λ site h home. was.sites site (below site h (λ e. apart (sym home ∙ ap (home_of t) e))) home;
      works = was.works;
    }
      where
        below : (site : ℕ) → site < k + 1 → site ≢ k → site < k
        below site h d = omega (arith, h, d)

    pub attach-first : AreFirst t (k + 1) (slice_set nodes (home_of t k) now)
    attach-first = record {
      each = length-set nodes (home_of t k) now ∙ first.each;
      nodes = each-set (IsFirst t (k + 1)) nodes (home_of t k) was now here edge-first (λ node x apart at. other-first node x apart (first.nodes node x at));
    }

  -- 5. All of it

  fresh-same : (node : ℕ) (own : ℕ → ℕ → ℕ) → fresh_node (wiring_of t) node ≡ node_with (wiring_of t) own (fresh_node (wiring_of t) node)
  fresh-same node own = ap (λ ss. record (fresh_node (wiring_of t) node) { sessions = ss }) (none-open (length t.links) 0)
    where
      none-open : (n l : ℕ) → replicate n None ≡ sessions_with (wiring_of t) own node l (replicate n None)
      none-open zero l = refl
      none-open (suc n) l = ap (λ ss. None ∷ ss) (none-open n (l + 1))

  rests-first : (node : ℕ) → IsResting t (start t) (rested_of t [] node) node (at_first (length t.loopbacks) (longest_life t (links_at (wiring_of t) node)))
  rests-first node = record {
    neighbours = length-replicate (length t.loopbacks) None;
    fecs = length-replicate (length t.loopbacks) 0;
    rows = λ l below at. subst (λ b. HasRow t (start t) node l b (row_of (at_first (length t.loopbacks) 0) (across (wiring_of t) l node)))
        (sym (closed l below))
        (nothing-at None (length t.loopbacks) (across (wiring_of t) l node));
    strangers = λ other none. nothing-at None (length t.loopbacks) other;
    rested_is = λ fec under. nothing-at 0 (length t.loopbacks) fec;
    life = refl;
  }
    where
      never : (b : Bool) → (b && false) ≡ false
      never true = refl
      never false = refl

      closed : (l : ℕ) → l < length t.links → is_operational_on t (start t) node l ≡ false
      closed l below = operational-is (wiring_of t) (start t).config (start t).views (start t).sessions node l below
          ∙ never (lives (start t).config l && is_end (wiring_of t) l node)

  node-starts : IsLawful t → (node : ℕ) (x : Standing) → node < length t.loopbacks → IsFirst t (length t.sites) node x →
      IsNode t (given t []) (rested_of t []) (start t) node x
  node-starts lawful node x below first =
      let labels : x.labels ≡ given t [] node = first.labels ∙ sym (given-first node) in
      let node_is : x.node ≡ node_with (wiring_of t) (own_of (given t [])) (node_at t (start t) node) =
      first.node_is ∙ fresh-same node (own_of (given t [])) ∙ ap (node_with (wiring_of t) (own_of (given t []))) (sym (begins t node)) in
      record {
        wiring = first.wiring;
        node_is = node_is;
        labels = labels;
        in_range = first.in_range;
        resting = subst (IsResting t (start t) (rested_of t [] node) node) (sym first.resting) (rests-first node);
        table = table-is t lawful [] (start t) node below x first.wiring node_is labels first.table
            (λ site attachment c.
            let at = gives_to_no_other t [] [] node site attachment tt c in
            let one : attachment ≡ 1 = (let a = at.first in let b : attachment ≤ 0 + 1 = at.last in omega (arith, a, b)) in
            subst (λ n. use_of x.uses (label_in (given t [] node) (attachment_of site n)) ≡ Some (site_entry (start t) site n)) (sym one)
            (subst (λ n. use_of x.uses (label_in (given t [] n) (attachment_of site 1)) ≡ Some (site_entry (start t) site 1)) at.home
            (first.sites site at.there at.home)));
        works = first.works;
      }

  pub starts : IsLawful t →
      (carried : Carried) → AreFirst t (length t.sites) carried.nodes → carried.labels ≡ map (first_label t) (range_with_len 0 (length t.sites)) →
      carried.changes ≡ replicate (length t.links) 0 → carried.switches ≡ replicate (length t.links) true → carried.notices ≡ [] → carried.messages ≡ [] →
      IsTransport t [] carried
  starts lawful carried first labels changes switches notices messages = record {
    each = first.each;
    nodes = λ node x at. node-starts lawful node x (subst (λ n. node < n) first.each (slice_get_within carried.nodes node x at)) (first.nodes node x at);
    changes = changes ∙ sym (constant 0 (length t.links) 0);
    up = λ l h. refl;
    switches = switches ∙ sym (constant true (length t.links) 0);
    each_site = ap length labels ∙ length-map-range_with_len (first_label t) 0 (length t.sites);
    sites = λ site attachment h at.
        ap (λ xs. slice_index_or xs site 0) labels ∙ get_or-map-range_with_len (first_label t) 0 (length t.sites) site site 0 h (omega arith)
        ∙ ap (label_at (given t []) (home_of t site) site) (same_Some 1 attachment at);
    notices = λ l node h below. ap (λ (xs : List (Item Notice)). 0 + length (on_channel (l * length t.loopbacks + node) xs)) notices;
    messages = λ l dir h. ap (λ (xs : List (Item (List ℕ))). map (λ item. item.item) (on_channel (channel l dir) xs)) messages;
  }
