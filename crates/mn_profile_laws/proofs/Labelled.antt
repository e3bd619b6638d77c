-- Where each node sends to a next hop that gave it a label no packet is without one on its way.
use Rattle.std.proofs.Common.{ℕ, zero, suc, ◌≡◌, ◌≢◌, ◌<◌, inl, inr, Bool, true, false, cond, List, [], ◌∷◌, length, refl, arith, sym, ◌∙◌, ap}
use Rattle.std.proofs.Common.{Option, None, Some}
use Rattle.std.specs.Prelude.{◌==◌}
use Rattle.std.proofs.lemmas.Bool.Decides.{eqb_tells}
use Rattle.mn_base.proofs.Bools.{no}
use Rattle.mn_base.proofs.Members.{in_contained}
use Rattle.mn_wiring.specs.Wiring.{Wiring, View, JoinsNodes}
use Rattle.mn_wiring.specs.Paths.{IsLeast}
use Rattle.mn_toward_laws.specs.Spared.{AllCost}
use Rattle.mn_topo.specs.Network.{Network, wiring_of}
use Rattle.mn_topo.specs.Lawful.{IsLawful}
use Rattle.mn_ledger.specs.World.{Config}
use Rattle.mn_reach_laws.specs.Fates.{up_links, before, over_hop}
use Rattle.mn_profile.specs.declared.switches.Profile.{Profile}
use Rattle.mn_profile_laws.specs.Profiles.{network_under}
use Rattle.mn_profile_laws.specs.Paths.{hops, cost_to, lsps_by, has_some, some_lead}
use Rattle.mn_profile_laws.specs.Choices.{Choice, ChoosesLabelled, TakesLabelled, chosen_within, chosen_by, chosen_lsp}
use Rattle.mn_profile_laws.proofs.Arriving.{joins, cost-all, none-less, least-is, is_hop, nearer, shorter}

module _ (t : Network) (p : Profile) (c : Config) (to : ℕ) (ok : JoinsNodes (wiring_of t)) (costs : AllCost (wiring_of t)) (choice : Choice)
    (chooses : ChoosesLabelled t p c to choice) where
  abbrev net : Wiring
  net = wiring_of t

  abbrev view : View
  view = up_links t c

  abbrev HasPath : ℕ → ℕ → Type 0
  HasPath fuel n = (nodes : List ℕ) × (chosen_within c choice fuel n to ≡ Some nodes)

  abbrev gone : ℕ → ℕ → Bool → Option (List ℕ)
  gone fuel n b = cond b (Some (n ∷ [])) (over_hop c n (λ hop. chosen_within c choice fuel hop to) (choice n))

  goes : (fuel d n : ℕ) → d < fuel → n < length t.loopbacks → IsLeast net view n to d → some_lead t p c n to ≡ true → HasPath fuel n
  goes zero d n f below least some = absurd (none-less d f)
  goes (suc fuel) d n f below least some = elim (eqb_tells n to) [
    | inl e ↦ (n ∷ [], ap (gone fuel n) e.0)
    | inr e ↦ on (λ m x g b l s. goes fuel x m g b l s) e.0 e.1 (chooses n below e.1 some)
  ]
    where
      on : ((m x : ℕ) → x < fuel → m < length t.loopbacks → IsLeast net view m to x → some_lead t p c m to ≡ true → HasPath fuel m)
          → (n == to) ≡ false → n ≢ to → TakesLabelled t p c to choice n → HasPath (suc fuel) n
      on more e apart takes =
          let h = is_hop net view to ok p.equal n takes.hop below apart (in_contained (hops t p c n to) takes.hop takes.among) in
          let near = nearer net view to n d takes.hop ok costs least h in
          let rest = more takes.hop.0 near.rest (shorter near.less f) near.below near.least takes.leads in (
            n ∷ rest.0,
            ap (gone fuel n) e ∙ ap (over_hop c n (λ hop. chosen_within c choice fuel hop to)) takes.taken
                ∙ ap (λ b. cond b (before n (chosen_within c choice fuel takes.hop.0 to)) None) takes.on ∙ ap (before n) rest.1,
          )

  pub goes-there : (n : ℕ) → n < length t.loopbacks → some_lead t p c n to ≡ true → (nodes : List ℕ) × (chosen_lsp t c choice n to ≡ Some nodes)
  goes-there n below some = by_cost (cost_to t c n to) refl
    where
      by_cost : (o : Option ℕ) → cost_to t c n to ≡ o → (nodes : List ℕ) × (chosen_lsp t c choice n to ≡ Some nodes)
      by_cost None e = absurd (no (sym (ap (λ o. has_some (lsps_by t p c n to o)) e) ∙ some))
      by_cost (Some d) e =
          let path = goes (suc d) d n (omega arith) below (least-is net view to ok n d below e) some in
          (path.0, ap (chosen_by c choice n to) e ∙ path.1)

pub labelled_arrive : (t : Network) (p : Profile) (c : Config) (to : ℕ) (choice : Choice) → IsLawful t → ChoosesLabelled (network_under t p c) p c to choice
    → (n : ℕ) → n < length t.loopbacks → some_lead (network_under t p c) p c n to ≡ true
    → (nodes : List ℕ) × (chosen_lsp (network_under t p c) c choice n to ≡ Some nodes)
labelled_arrive t p c to choice lawful chooses = goes-there (network_under t p c) p c to (joins t p c lawful) (cost-all t p c lawful) choice chooses
