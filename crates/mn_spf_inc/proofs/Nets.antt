-- Which links are up, and the lists of links by node.
use Rattle.std.proofs.Common.{ℕ, zero, suc, ◌≡◌, ◌≢◌, ◌<◌, Bool, true, false, List, ◌∷◌, length, get_or, set, map, replicate, refl, arith, sym, ◌∙◌, ap}
use Rattle.std.proofs.Common.{◌⊎◌, inl, inr, get_or-set_other, get_or-set_same}
use Rattle.std.specs.Prelude.{◌&&◌, nat_lt}
use Rattle.std.proofs.lemmas.Bool.{lt-ltb}
use Rattle.std.proofs.lemmas.Bool.Decides.{eqb_tells}
use Rattle.std.proofs.lemmas.List.{map-set, get_or-map, get_or-replicate, length-map}
use Rattle.mn_wiring.specs.declared.links.LinkEnds.{LinkEnds}
use Rattle.mn_wiring.specs.Wiring.{is_up, is_end}
use Rattle.mn_linkdb.specs.Changes.{is_odd}
use Rattle.mn_linkdb.specs.Learned.{Learned, links_up}
use Rattle.mn_spf.specs.Ways.{wiring_of, goes}
use Rattle.mn_spf.proofs.Walks.{goes_at, all_true}
use Rattle.mn_spf_inc.specs.Nets.{one_if, seen_as, all_up, all_down, with_link}

odd_one : (b : Bool) → is_odd (one_if b) ≡ b
odd_one true = refl
odd_one false = refl

-- 1. Lists
map_same : {X Y : Type 0} (f : X → Y) (n : ℕ) (x : X) → map f (replicate n x) ≡ replicate n (f x)
map_same f zero x = refl
map_same f (suc n) x = ap (λ ys. f x ∷ ys) (map_same f n x)

pub up_is : (nodes l : ℕ) (ends : List LinkEnds) (up : List Bool) → l < length up → is_up (links_up (seen_as nodes ends up)) l ≡ get_or up l false
up_is nodes l ends up p =
    get_or-map is_odd (map one_if up) l 0 false (omega (arith, length-map up one_if, p)) ∙ ap is_odd (get_or-map one_if up l false 0 p)
    ∙ odd_one (get_or up l false)

pub none_up : (nodes : ℕ) (ends : List LinkEnds) → links_up (all_down nodes ends) ≡ replicate (length ends) false
none_up nodes ends = map_same is_odd (length ends) 0

same_seen : (nodes nodes' : ℕ) (ends ends' : List LinkEnds) (counts counts' : List ℕ) → nodes ≡ nodes' → ends ≡ ends' → counts ≡ counts' →
    ◌≡◌ {A = Learned} (record { nodes = nodes; ends = ends; counts = counts }) (record { nodes = nodes'; ends = ends'; counts = counts' })
same_seen nodes nodes' ends ends' counts counts' e f g = cc

pub seen_down : (nodes nodes' : ℕ) (ends ends' : List LinkEnds) (up : List Bool) → nodes ≡ nodes' → ends ≡ ends' → up ≡ replicate (length ends') false →
    seen_as nodes ends up ≡ all_down nodes' ends'
seen_down nodes nodes' ends ends' up e f g = same_seen _ _ _ _ _ _ e f (ap (map one_if) g ∙ map_same one_if (length ends') false)

pub seen_set : (nodes l : ℕ) (ends : List LinkEnds) (ups : List Bool) (up : Bool) → seen_as nodes ends (set ups l up) ≡ with_link (seen_as nodes ends ups) l up
seen_set nodes l ends ups up = same_seen _ _ _ _ _ _ refl refl (map-set one_if ups l up)

-- 2. A link is turned
pub up_set : (v : Learned) (l : ℕ) (up : Bool) → links_up (with_link v l up) ≡ set (links_up v) l up
up_set v l up = map-set is_odd v.counts l (one_if up) ∙ ap (set (links_up v) l) (odd_one up)

module _ (v : Learned) (l : ℕ) (up : Bool) where
  up_other : (m : ℕ) → m ≢ l → is_up (links_up (with_link v l up)) m ≡ is_up (links_up v) m
  up_other m q = ap (λ ups. is_up ups m) (up_set v l up) ∙ get_or-set_other (links_up v) l m up false q

  pub up_there : l < length v.counts → is_up (links_up (with_link v l up)) l ≡ up
  up_there p = ap (λ ups. is_up ups l) (up_set v l up) ∙ get_or-set_same (links_up v) l up false (omega (arith, length-map v.counts is_odd, p))

  pub goes_other : (node m : ℕ) → m ≢ l → goes (with_link v l up) node m ≡ goes v node m
  goes_other node m q = ap (λ b. b && (is_end (wiring_of v) m node && nat_lt m (length v.ends))) (up_other m q)

module _ (v : Learned) (l : ℕ) (there : l < length v.counts) where
  clash : true ≢ false
  clash e = cc

  -- what goes on without the link goes on with it
  pub goes_without : (node m : ℕ) → goes (with_link v l false) node m ≡ true → (m ≢ l) × (goes v node m ≡ true)
  goes_without node m g =
      let other : m ≢ l =
      (λ e. clash (sym (goes_at (with_link v l false) node m g).up ∙ ap (is_up (links_up (with_link v l false))) e ∙ up_there v l false there)) in
      (other, sym (goes_other v l false node m other) ∙ g)

  pub goes_with : (node m : ℕ) → goes (with_link v l true) node m ≡ true → (m ≡ l) ⊎ (goes v node m ≡ true)
  goes_with node m g =
      elim (eqb_tells m l) [
        | inl e ↦ inl e.1
        | inr e ↦ inr (sym (goes_other v l true node m e.1) ∙ g)
      ]

-- 3. The links at a node, whether they are up or not
module _ (v : Learned) where
  pub is_up_all : (l : ℕ) → l < length v.ends → is_up (links_up (all_up v.nodes v.ends)) l ≡ true
  is_up_all l p = ap (λ ups. is_up ups l) (map_same is_odd (length v.ends) 1) ∙ get_or-replicate (length v.ends) l true false p

  pub goes_if_up : (node l : ℕ) → goes v node l ≡ true → goes (all_up v.nodes v.ends) node l ≡ true
  goes_if_up node l g =
      let a = goes_at v node l g in all_true _ _ _ (is_up_all l a.there) a.at_node (lt-ltb _ _ a.there)

  pub goes_when_up : (node l : ℕ) → goes (all_up v.nodes v.ends) node l ≡ true → is_up (links_up v) l ≡ true → goes v node l ≡ true
  goes_when_up node l g u =
      let a = goes_at (all_up v.nodes v.ends) node l g in all_true _ _ _ u a.at_node (lt-ltb _ _ a.there)

  -- and back over the link
  pub all_there : (node l : ℕ) → goes (all_up v.nodes v.ends) node l ≡ true → l < length v.ends
  all_there node l g = (goes_at (all_up v.nodes v.ends) node l g).there
