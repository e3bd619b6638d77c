-- A fresh node and bindings of which nothing was received are tied.
use Rattle.std.proofs.Common.{ℕ, zero, suc, ◌≡◌, ◌+◌, ◌<◌, inl, inr, true, false, List, [], ◌∷◌, length, map, refl, sym, ◌∙◌, ap, subst, Option}
use Rattle.std.proofs.Common.{Some, None, Vec, Global}
use Rattle.std.specs.Prelude.{◌==◌, ◌&&◌, ◌||◌, ◌%◌, nat_le, is_some, slice_index_or, replicate}
use Rattle.std.specs.List.{range_with_len}
use Rattle.std.proofs.lemmas.Bool.Decides.{eqb_tells}
use Rattle.mn_wiring.specs.Wiring.{Wiring, JoinsNodes}
use Rattle.mn_wiring.specs.Paths.{IsNext, next}
use Rattle.mn_base.specs.declared.numbers.NodeNo.{NodeNo}
use Rattle.mn_base.specs.declared.numbers.LinkNo.{LinkNo}
use Rattle.mn_wiring.proofs.Next.{next_is}
use Rattle.mn_linkdb.specs.Trees.{hop_alone}
use Rattle.mn_bindings.specs.Bindings.{nothing_heard}
use Rattle.mn_node.specs.Node.{view_in, hearing_in}
use Rattle.mn_node.specs.Machine.{fresh_node}
use Rattle.mn_node.proofs.Lists.{map_below}
use Rattle.mn_node.proofs.Opening.{hearing-in}
use Rattle.mn_wiring.specs.declared.links.LinkEnds.{LinkEnds}
use Rattle.mn_linkdb.specs.Changes.{is_odd}
use Rattle.mn_linkdb.specs.Learned.{Learned, links_up}
use Rattle.mn_spf_inc.specs.Mended.{Mended}
use Rattle.mn_labels.specs.declared.meaning.Bind.{Bind}
use Rattle.mn_labels.specs.declared.meaning.Bind.TheVariants as bind
use Rattle.mn_labels.specs.Labels.{Labels, LabelTable, none_given, fec_with, or_attachment, meaning_of, Means, IsTold}
use Rattle.mn_releases.specs.Rests.{Resting, at_first}
use Rattle.mn_bindings.specs.Known.{Known, nothing_known}
use Rattle.mn_lfib.specs.declared.answer.Use.{Use}
use Rattle.mn_bindings.specs.Bindings as lib
use Rattle.mn_bindings.specs.Bindings.{Bindings, usable}
use Rattle.mn_node.specs.Node.{Session, Node}
use Rattle.mn_ldp_session.specs.declared.session.Session.{Session as Machine}
use Rattle.mn_lsr.specs.OwnEnds.{Listed}
use Rattle.mn_lsr.specs.declared.parts.Parts.{Parts}
use Rattle.mn_lsr.specs.Standing.{IsWired, IsMendedFor, IsUseOf, attachments, sessions_from}
use Rattle.mn_lsr.specs.Turns.{Kept}
use Rattle.mn_lsr.specs.Parts.{FitsLabel, Nothing, machines_of, node_in, kept_of, Stands}
use Rattle.mn_base.proofs.Members.{in_contained}
use Rattle.mn_lsr.specs.Ties.{AreTied}
use Rattle.mn_lsr.specs.Telling.{AreLinks}
use Rattle.mn_lsr.proofs.Following.{no_next}

none_there : {A : Type 0} (n k : ℕ) → (let o : Option A = slice_index_or (replicate n None) k None in o) ≡ None
none_there zero k = refl
none_there (suc n) zero = refl
none_there (suc n) (suc k) = none_there n k

all_down : (n l : ℕ) → slice_index_or (map (λ (count : ℕ). count % 2 == 1) (replicate n 0)) l false ≡ false
all_down zero l = refl
all_down (suc n) zero = refl
all_down (suc n) (suc l) = all_down n l

so_many : {A : Type 0} (n : ℕ) (x : A) → length (replicate n x) ≡ n
so_many zero x = refl
so_many (suc n) x = ap suc (so_many n x)

nones : (n q : ℕ) → (let o : List (Option NodeNo) = map (λ k. None) (range_with_len q n) in o) ≡ replicate n None
nones zero q = refl
nones (suc n) q = ap (λ xs. None ∷ xs) (nones n (q + 1))

-- over links that are all down there is no next hop
no_hop : (w : Wiring) (me fec : ℕ) → JoinsNodes w → me < length w.loopbacks → hop_alone (next w (view_in (fresh_node w me)) me fec) ≡ None
no_hop w me fec joins below = elim (eqb_tells me fec) [
  | inl p ↦ ap (λ f. hop_alone (next w (view_in (fresh_node w me)) me f)) (sym p.1) ∙ ap hop_alone (no_next w (view_in (fresh_node w me)) me)
  | inr p ↦ by (next w (view_in (fresh_node w me)) me fec) (next_is w (view_in (fresh_node w me)) fec joins me below p.1)
]
  where
    clash : true ≡ false → ⊥
    clash e = cc

    by : (o : Option (ℕ × ℕ)) → IsNext w (view_in (fresh_node w me)) me fec o → hop_alone o ≡ None
    by None h = refl
    by (Some hop) h = absurd (clash (sym h.1.up ∙ all_down (length w.ends) hop.1))

pub fresh_tied : (w : Wiring) (me : NodeNo) → JoinsNodes w → me.0 < length w.loopbacks → AreTied w (fresh_node w me.0) (nothing_heard me (length w.loopbacks))
fresh_tied w me joins below = record {
  one_each = so_many (length w.loopbacks) None;
  me = refl;
  hops = sym
      (map_below (λ fec. hop_alone (next w (view_in (fresh_node w me.0)) me.0 fec)) (λ fec. None) (length w.loopbacks) 0
      (λ fec low high. no_hop w me.0 fec joins below) ∙ nones (length w.loopbacks) 0);
  open_is =
      λ h l h_below j. ap is_some (none_there (length w.loopbacks) h)
      ∙ sym (ap (λ x. x.alive && nat_le 2 x.count) (hearing-in (fresh_node w me.0) l ∙ ap hearing_in (none_there (length w.ends) l)));
  labels = λ h l fec h_below j on. absurd (clash (sym on ∙ ap is_some (none_there (length w.loopbacks) h)));
}
  where
    clash : true ≡ false → ⊥
    clash e = cc

-- of a node of which nothing was received no FEC can be used
none_usable : (me : NodeNo) (nodes fec : ℕ) → usable (nothing_heard me nodes) fec ≡ None
none_usable me nodes fec = ap (lib.usable_by (nothing_heard me nodes) fec) (none_there nodes fec)

none_heard : (me : NodeNo) (nodes neighbour fec : ℕ) → lib.label_learned (lib.row_of (nothing_heard me nodes) neighbour) fec ≡ None
none_heard me nodes neighbour fec = ap (λ r. lib.label_learned r fec) (none_there nodes neighbour)

-- where nothing was given no label means anything
fec_none : (label k n : ℕ) → fec_with label k (replicate n None) ≡ None
fec_none label k zero = refl
fec_none label k (suc n) = fec_none label (k + 1) n

means_nothing : (n label : ℕ) → meaning_of (none_given n) label ≡ None
means_nothing n label = ap (λ o. or_attachment o label []) (fec_none label 0 n)

none_told : (n : ℕ) → IsTold (none_given n)
none_told n label thing = (λ e. absurd (clash (sym (means_nothing n label) ∙ e)), λ m. absurd (unmeant thing m))
  where
    clash : None ≡ Some thing → ⊥
    clash e = cc

    unmeant : (x : Bind) → Means (none_given n) label x → ⊥
    unmeant (bind.Fec fec) m = no (sym (none_there n fec.0) ∙ m)
      where
        no : None ≡ Some label → ⊥
        no e = cc
    unmeant (bind.Site site number) m = absurd (in_contained [] (record { label = label; what = bind.Site site number }) m)

no_sessions : (w : Wiring) (me : ℕ) (b : Bindings) (q n : ℕ) → sessions_from w me b q (replicate n None) ≡ replicate n None
no_sessions w me b q zero = refl
no_sessions w me b q (suc n) = ap (λ ss. let o : List (Option Session) = None ∷ ss in o) (no_sessions w me b (q + 1) n)

no_machines : (n : ℕ) → machines_of (replicate n None) ≡ replicate n None
no_machines zero = refl
no_machines (suc n) = ap (λ ss. let o : List (Option Machine) = None ∷ ss in o) (no_machines n)

-- the parts of a node that has learned nothing stand
module _ (alloc : Global) (me : NodeNo) (loopbacks : Vec ℕ Global) (ends : List LinkEnds) (mended : Mended) (sessions : Listed) (labels : LabelTable) (life : ℕ)
    (attached : Vec ℕ Global) (links : Vec (Option LinkNo) Global)
    (below : me.0 < length loopbacks.items) (wired : IsWired (record { loopbacks = loopbacks.items; ends = ends }))
    (sessions_are : sessions.items ≡ replicate (length ends) None)
    (given_are : labels.labels ≡ none_given (length loopbacks.items)) (me_is : labels.me ≡ me.0) (none_attached_yet : attached.items ≡ [])
    (links_are : AreLinks (record { loopbacks = loopbacks.items; ends = ends }) me.0 links.items) where
  abbrev pub w : Wiring
  w = record { loopbacks = loopbacks.items; ends = ends }

  abbrev pub parts : Parts
  parts = record {
    alloc = alloc;
    me = me;
    loopbacks = loopbacks;
    view = record { nodes = length loopbacks.items; ends = ends; counts = replicate (length ends) 0 };
    mended = mended;
    sessions = sessions;
    lib = nothing_known me (length loopbacks.items) life;
    labels = labels;
    lfib = [];
    attached = attached;
    links = links;
  }

  pub node-is : node_in parts ≡ fresh_node w me.0
  node-is = ap (λ ss. let o : Node = record { me = me.0; learned = replicate (length ends) 0; sessions = ss } in o)
      (ap (sessions_from w me.0 (nothing_heard me (length loopbacks.items)) 0) sessions_are
      ∙ no_sessions w me.0 (nothing_heard me (length loopbacks.items)) 0 (length ends))

  machines : machines_of sessions.items ≡ replicate (length ends) None
  machines = ap machines_of sessions_are ∙ no_machines (length ends)

  pub stands : IsMendedFor w (links_up (record { nodes = length loopbacks.items; ends = ends; counts = replicate (length ends) 0 })) me.0 mended → Stands parts
  stands mended_is = record {
    view = record { network = wired.network; one_each = so_many (length ends) 0 };
    nodes = refl;
    me = below;
    wired = wired;
    mended = mended_is;
    ends = record {
      one_each = ap length machines ∙ so_many (length ends) None;
      own =
          λ l s e. absurd (clash (sym (ap (λ ms. slice_index_or ms l None) machines ∙ none_there (length ends) l) ∙ e));
    };
    rows = so_many (length loopbacks.items) None;
    tied = subst (λ n. AreTied w n (nothing_heard me (length loopbacks.items))) (sym node-is) (fresh_tied w me wired.joins below);
    fit = λ neighbour fec. subst FitsLabel (sym (none_heard me (length loopbacks.items) neighbour fec)) tt;
    labels = record {
      me_is = me_is;
      long = ap (λ (l : Labels). length l.fecs) given_are ∙ so_many (length loopbacks.items) None;
      told = subst IsTold (sym given_are) (none_told (length loopbacks.items));
      had = λ fec h d on. absurd (d (own_alone fec on));
    };
    owed = record {
      rows = so_many (length loopbacks.items) None;
      open_is = λ neighbour. ap is_some (none_there (length loopbacks.items) neighbour) ∙ sym (ap is_some (none_there (length loopbacks.items) neighbour));
      each = λ neighbour. Nothing (none_there (length loopbacks.items) neighbour);
    };
    attached =
        λ site. ap (λ xs. slice_index_or xs site 0) none_attached_yet
        ∙ sym (ap (λ (l : Labels). attachments site l.given) given_are);
    links = links_are;
    table = λ label. subst (λ m. IsUseOf (usable (nothing_heard me (length loopbacks.items))) m None)
        (sym (ap (λ l. meaning_of l label) given_are ∙ means_nothing (length loopbacks.items) label)) refl;
  }
    where
      clash : {s : Machine} → None ≡ Some s → ⊥
      clash e = cc

      own_alone : (fec : ℕ) → lib.offers (nothing_heard me (length loopbacks.items)) fec ≡ true → fec ≡ me.0
      own_alone fec on = elim (eqb_tells me.0 fec) [
        | inl p ↦ sym p.1
        | inr p ↦ absurd (no (sym on ∙ ap (λ x. x || is_some (usable (nothing_heard me (length loopbacks.items)) fec)) p.0
            ∙ ap is_some (none_usable me (length loopbacks.items) fec)))
      ]
        where
          no : true ≡ false → ⊥
          no e = cc

-- the same of parts that are made so
pub record IsMade (root : NodeNo) (addresses : List ℕ) (links : List LinkEnds) (life : ℕ) (p : Parts) : Type 0 where
  pub me : p.me ≡ root
  pub loopbacks : p.loopbacks.items ≡ addresses
  pub view : p.view ≡ record { nodes = length addresses; ends = links; counts = replicate (length links) 0 }
  pub sound : p.mended.failed ≡ false
  pub from : p.mended.root ≡ root.0
  pub nodes : p.mended.nodes ≡ length addresses
  pub ends : p.mended.ends ≡ links
  pub up : p.mended.up ≡ replicate (length links) false
  pub sessions : p.sessions.items ≡ replicate (length links) None
  pub bindings : p.lib ≡ nothing_known root (length addresses) life
  pub given : p.labels.labels ≡ none_given (length addresses)
  pub given_by : p.labels.me ≡ root.0
  pub uses : p.lfib ≡ []
  pub attached : p.attached.items ≡ []
  pub links_are : AreLinks (record { loopbacks = addresses; ends = links }) root.0 p.links.items

module _ (me : NodeNo) (loopbacks : List ℕ) (ends : List LinkEnds) (life : ℕ) (p : Parts) (below : me.0 < length loopbacks)
    (wired : IsWired (record { loopbacks = loopbacks; ends = ends })) (h : IsMade me loopbacks ends life p) where
  here : me.0 < length p.loopbacks.items
  here = subst (λ xs. me.0 < length xs) (sym h.loopbacks) below

  wired-here : IsWired (record { loopbacks = p.loopbacks.items; ends = ends })
  wired-here = subst (λ xs. IsWired (record { loopbacks = xs; ends = ends })) (sym h.loopbacks) wired

  view-is : p.view ≡ record { nodes = length p.loopbacks.items; ends = ends; counts = replicate (length ends) 0 }
  view-is = h.view ∙ ap (λ (xs : List ℕ). let o : Learned = record { nodes = length xs; ends = ends; counts = replicate (length ends) 0 } in
      o) (sym h.loopbacks)

  lib-is : p.lib ≡ nothing_known me (length p.loopbacks.items) life
  lib-is = h.bindings ∙ ap (λ (xs : List ℕ). nothing_known me (length xs) life) (sym h.loopbacks)

  given-is : p.labels.labels ≡ none_given (length p.loopbacks.items)
  given-is = h.given ∙ ap (λ (xs : List ℕ). none_given (length xs)) (sym h.loopbacks)

  mended-is : IsMendedFor (record { loopbacks = p.loopbacks.items; ends = ends })
      (links_up (record { nodes = length p.loopbacks.items; ends = ends; counts = replicate (length ends) 0 })) me.0 p.mended
  mended-is = record {
    sound = h.sound;
    root = h.from;
    over = record { nodes = ap length h.loopbacks ∙ sym h.nodes; ends = sym h.ends };
    up = h.up ∙ sym (none_odd (length ends));
  }
    where
      none_odd : (n : ℕ) → map is_odd (replicate n 0) ≡ replicate n false
      none_odd zero = refl
      none_odd (suc n) = ap (λ ups. false ∷ ups) (none_odd n)

  links-are : AreLinks (record { loopbacks = p.loopbacks.items; ends = ends }) me.0 p.links.items
  links-are = subst (λ xs. AreLinks (record { loopbacks = xs; ends = ends }) me.0 p.links.items) (sym h.loopbacks) h.links_are

  abbrev as_made : Parts
  as_made = parts p.alloc me p.loopbacks ends p.mended p.sessions p.labels life p.attached p.links here wired-here h.sessions given-is h.given_by
      h.attached links-are

  made-is : p ≡ as_made
  made-is =
      ap (λ (m : NodeNo). let o : Parts = record p { me = m } in o) h.me
      ∙ ap (λ (v : Learned). let o : Parts = record p { me = me; view = v } in o) view-is
      ∙ ap (λ (b : Known). let o : Parts = record as_made { lib = b; lfib = p.lfib } in o) lib-is
      ∙ ap (λ (us : List (ℕ × Use)). let o : Parts = record as_made { lfib = us } in o) h.uses

  pub made-stands : Stands p
  made-stands =
      subst Stands (sym made-is) (stands p.alloc me p.loopbacks ends p.mended p.sessions p.labels life p.attached p.links here wired-here
      h.sessions given-is h.given_by
      h.attached links-are mended-is)

  pub made-kept : kept_of p ≡ record {
    node = fresh_node (record { loopbacks = loopbacks; ends = ends }) me.0;
    labels = none_given (length loopbacks);
    resting = at_first (length loopbacks) life;
  }
  made-kept =
      let of : Node → Labels → Resting → Kept = λ x y z. record { node = x; labels = y; resting = z } in
      let node : node_in p ≡ fresh_node (record { loopbacks = loopbacks; ends = ends }) me.0 =
      ap node_in made-is
      ∙ node-is p.alloc me p.loopbacks ends p.mended p.sessions p.labels life p.attached p.links here wired-here h.sessions given-is h.given_by
      h.attached links-are
      ∙ ap (λ xs. fresh_node (record { loopbacks = xs; ends = ends }) me.0) h.loopbacks in
      ap (λ x. of x p.labels.labels p.lib.resting) node
      ∙ ap (λ y. of (fresh_node (record { loopbacks = loopbacks; ends = ends }) me.0) y p.lib.resting) h.given
      ∙ ap (λ (k : Known). of (fresh_node (record { loopbacks = loopbacks; ends = ends }) me.0) (none_given (length loopbacks)) k.resting) h.bindings
