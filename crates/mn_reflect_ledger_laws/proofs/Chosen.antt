-- What reflectors say of a route where they agree.
use Rattle.std.proofs.Common.{ℕ, ◌≡◌, ◌⊎◌, inl, inr, Bool, true, false, cond, List, [], ◌∷◌, Some, None, Option}
use Rattle.std.proofs.Common.{refl, sym, ◌∙◌, ap}
use Rattle.std.specs.Prelude.{◌||◌, nat_lt, option_map}
use Rattle.std.proofs.lemmas.Bool.Decides.{eqb_tells}
use Rattle.mn_base.proofs.Bools.{no}
use Rattle.mn_base.proofs.Members.{In}
use Rattle.mn_topo.specs.Network.{Network}
use Rattle.mn_ledger.specs.Places.{loopback}
use Rattle.mn_ledger.specs.World.{Export}
use Rattle.mn_reflect_ledger_laws.specs.Words.{Key, Offer}
use Rattle.mn_reflect_ledger_laws.specs.Picks.{ReflectWorld, announced_by, or_else, first_announced, placed_by, by_address, is_reflector}

-- the export alone
abbrev pub export_of : Option Offer → Option Export
export_of offer = option_map (λ o. o.export) offer

-- 1. Reflectors in order of addresses are the reflectors

placed_in : (topology : Network) (node : ℕ) (nodes : List ℕ) (x : ℕ) → (node ≡ x) ⊎ In nodes x → In (placed_by topology node nodes) x
placed_in topology node [] x (inl e) = inl e
placed_in topology node [] x (inr i) = absurd i
placed_in topology node (other ∷ others) x h = by (nat_lt (loopback topology node) (loopback topology other)) (placed_in topology node others x) h
  where
    by : (b : Bool) → ((node ≡ x) ⊎ In others x → In (placed_by topology node others) x) → (node ≡ x) ⊎ In (other ∷ others) x →
        In (cond b (node ∷ other ∷ others) (other ∷ placed_by topology node others)) x
    by true f (inl e) = inl e
    by true f (inr i) = inr i
    by false f (inl e) = inr (f (inl e))
    by false f (inr i) = elim i [ inl e ↦ inl e | inr j ↦ inr (f (inr j)) ]

in_placed : (topology : Network) (node : ℕ) (nodes : List ℕ) (x : ℕ) → In (placed_by topology node nodes) x → (node ≡ x) ⊎ In nodes x
in_placed topology node [] x i = elim i [ inl e ↦ inl e | inr j ↦ absurd j ]
in_placed topology node (other ∷ others) x i = by (nat_lt (loopback topology node) (loopback topology other)) (in_placed topology node others x) i
  where
    by : (b : Bool) → (In (placed_by topology node others) x → (node ≡ x) ⊎ In others x) → In (cond b (node ∷ other ∷ others)
        (other ∷ placed_by topology node others)) x →
        (node ≡ x) ⊎ In (other ∷ others) x
    by true f j = elim j [ inl e ↦ inl e | inr k ↦ inr k ]
    by false f j = elim j [ inl e ↦ inr (inl e) | inr k ↦ elim (f k) [ inl e ↦ inl e | inr m ↦ inr (inr m) ] ]

pub address_in : (topology : Network) (nodes : List ℕ) (x : ℕ) → In nodes x → In (by_address topology nodes) x
address_in topology [] x i = i
address_in topology (node ∷ nodes) x i = placed_in topology node (by_address topology nodes) x (elim i [
  | inl e ↦ inl e
  | inr j ↦ inr
      (address_in topology nodes x j)
])

pub in_address : (topology : Network) (nodes : List ℕ) (x : ℕ) → In (by_address topology nodes) x → In nodes x
in_address topology [] x i = i
in_address topology (node ∷ nodes) x i = elim (in_placed topology node (by_address topology nodes) x i) [
  | inl e ↦ inl e
  | inr j ↦ inr
      (in_address topology nodes x j)
]

pub reflector_in : (reflectors : List ℕ) (x : ℕ) → is_reflector reflectors x ≡ true → In reflectors x
reflector_in [] x h = absurd (no h)
reflector_in (y ∷ ys) x h = elim (eqb_tells y x) [
  | inl e ↦ inl e.1
  | inr e ↦ inr (reflector_in ys x (sym (ap (λ b. b || is_reflector ys x) e.0) ∙ h))
]

pub in_reflectors : (reflectors : List ℕ) (x : ℕ) → In reflectors x → is_reflector reflectors x ≡ true
in_reflectors [] x i = absurd i
in_reflectors (y ∷ ys) x i = elim (eqb_tells y x) [
  | inl e ↦ ap (λ b. b || is_reflector ys x) e.0
  | inr e ↦ ap (λ b. b || is_reflector ys x) e.0 ∙ elim i [ inl q ↦ absurd (e.1 q) | inr j ↦ in_reflectors ys x j ]
]

-- 2. The first of those that say anything

module _ (world : ReflectWorld) (node : ℕ) (key : Key) where
  pub none_says : (peers : List ℕ) → ((x : ℕ) → In peers x → announced_by world node x key ≡ None) → first_announced world node key peers ≡ None
  none_says [] h = refl
  none_says (peer ∷ peers) h = ap (λ o. or_else o (first_announced world node key peers)) (h peer (inl refl)) ∙ none_says peers (λ x i. h x (inr i))

  -- each says nothing or this
  abbrev pub Agrees : Option Export → ℕ → Type 0
  Agrees target x = (announced_by world node x key ≡ None) ⊎ (export_of (announced_by world node x key) ≡ target)

  pub one_says : (target : Option Export) (peers : List ℕ) → ((x : ℕ) → In peers x → Agrees target x) → (one : ℕ) → In peers one →
      export_of (announced_by world node one key) ≡ target → export_of (first_announced world node key peers) ≡ target
  one_says target [] h one i e = absurd i
  one_says target (peer ∷ peers) h one i e =
      by (announced_by world node peer key) refl (h peer (inl refl)) (λ j. one_says target peers (λ x k. h x (inr k)) one j e) (rest target refl)
    where
      -- where nothing is to be sent, nothing is
      rest : (t : Option Export) → target ≡ t → t ≡ None → export_of (first_announced world node key peers) ≡ target
      rest t q n = ap export_of (none_says peers (λ x k. elim (h x (inr k)) [ inl g ↦ g | inr g ↦ nothing (announced_by world node x key) (g ∙ q ∙ n) ]))
          ∙ sym n ∙ sym q
        where
          nothing : (o : Option Offer) → export_of o ≡ None → o ≡ None
          nothing None g = refl
          nothing (Some offer) g = absurd (no (ap (λ z. elim z [ None ↦ true | Some w ↦ false ]) g))

      by : (o : Option Offer) → announced_by world node peer key ≡ o → Agrees target peer → (In peers one →
          export_of (first_announced world node key peers) ≡ target) →
          (target ≡ None → export_of (first_announced world node key peers) ≡ target) →
          export_of (or_else (announced_by world node peer key) (first_announced world node key peers)) ≡ target
      by (Some offer) q (inl a) f g = absurd (no (ap (λ z. elim z [ None ↦ false | Some w ↦ true ]) (sym a ∙ q)))
      by (Some offer) q (inr a) f g = ap (λ z. export_of (or_else z (first_announced world node key peers))) q ∙ sym (ap export_of q) ∙ a
      by None q a f g =
          ap (λ z. export_of (or_else z (first_announced world node key peers))) q
          ∙ elim i [
            | inl e2 ↦ g (sym e ∙ ap (λ x. export_of (announced_by world node x key)) (sym e2) ∙ ap export_of q)
            | inr j ↦ f j
          ]
