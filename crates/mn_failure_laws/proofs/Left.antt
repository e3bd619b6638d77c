-- What a failure leaves, in its own words: links lead both ways, so a session is the same from either end.
use Rattle.std.proofs.Common.{ℕ, suc, ◌≡◌, ◌≢◌, ◌<◌, inl, inr, Bool, true, false, length, refl, arith, sym, ◌∙◌, ap}
use Rattle.std.proofs.Common.{Option, None, Some}
use Rattle.std.specs.Prelude.{◌==◌, ◌&&◌, ◌||◌, not, nat_lt, is_some, if◌then◌else◌}
use Rattle.std.specs.List.{Contains}
use Rattle.std.proofs.lemmas.Bool.Decides.{leb_tells}
use Rattle.mn_wiring.specs.Wiring.{Wiring, View, links_of}
use Rattle.mn_wiring.specs.Paths.{IsDist, dist_in, dists_to}
use Rattle.mn_wiring.proofs.Dist.{dists_are_least}
use Rattle.mn_topo.specs.Network.{Network, wiring_of}
use Rattle.mn_topo.specs.Lawful.{IsLawful}
use Rattle.mn_ledger.specs.Places.{edges}
use Rattle.mn_ledger.specs.Bgp.{peers_live}
use Rattle.mn_ledger.proofs.Members.{in_range}
use Rattle.mn_toward_laws.proofs.Back.{same_cost}
use Rattle.mn_failure_laws.specs.Failures.{Failure, links_left, links_lead, is_session_left, config_under, have_session, SaysWhatIsLeft, IsUnder, AreAlike}
use Rattle.mn_failure_laws.specs.Fates.{fate_under}
use Rattle.mn_failure_laws.proofs.Same.{same_map}
use Rattle.mn_failure_laws.proofs.Fates.{fates}

both_lead : (w : Wiring) (view : View) (m n : ℕ) (one other : Option ℕ) → IsDist w view m n one → IsDist w view n m other → is_some one ≡ is_some other
both_lead w view m n (Some a) (Some b) h g = refl
both_lead w view m n None None h g = refl
both_lead w view m n (Some a) None h g = let back = same_cost w view m n (Some a) h in absurd (g back.walk.0 back.walk.1)
both_lead w view m n None (Some b) h g = let back = same_cost w view n m (Some b) g in absurd (h back.walk.0 back.walk.1)

module _ (t : Network) (f : Failure) (lawful : IsLawful t) where
  leads : (one other : ℕ) → one < length t.loopbacks → other < length t.loopbacks → links_lead t f one other ≡ links_lead t f other one
  leads one other h g =
      both_lead (wiring_of t) (links_left t f) one other
      (dist_in (dists_to (wiring_of t) (links_left t f) other) one) (dist_in (dists_to (wiring_of t) (links_left t f) one) other)
      (dists_are_least (wiring_of t) (links_left t f) other lawful.joins_nodes one h)
      (dists_are_least (wiring_of t) (links_left t f) one lawful.joins_nodes other g)

  sessions : (one other : ℕ) → one < length t.loopbacks → other < length t.loopbacks → peers_live (config_under t f) one other ≡ have_session t f one other
  sessions one other h g = by (nat_lt one other)
    where
      by : (b : Bool) → (if b then is_session_left t f one other else is_session_left t f other one)
          ≡ (not (if b then f.bgp_off one other else f.bgp_off other one) && (not f.ends || links_lead t f one other))
      by true = refl
      by false = ap (λ x. not (f.bgp_off other one) && (not f.ends || x)) (leads other one g h)

pub left : (t : Network) (f : Failure) → IsLawful t → SaysWhatIsLeft t f
left t f lawful = record {
  links = refl;
  leads = leads t f lawful;
  sessions = sessions t f lawful;
  told = λ edge route h g. ap (λ b. (route.edge == edge) || b) (sessions t f lawful edge route.edge h g);
}

-- Two failures that are the same of all that there is leave the same
module _ (t : Network) (f g : Failure) (alike : AreAlike t f g) where
  same_left : links_left t f ≡ links_left t g
  same_left =
      same_map (λ l. not (f.is_down l)) (λ l. not (g.is_down l)) (links_of (wiring_of t))
      (λ l i. let r = in_range 0 (length t.links) l i in ap not (alike.links l (omega (arith, r.1))))

  same_session : (edge peer : ℕ) → f.bgp_off edge peer ≡ g.bgp_off edge peer → is_session_left t f edge peer ≡ is_session_left t g edge peer
  same_session edge peer e =
      ap (λ x. not x && (not f.ends || links_lead t f edge peer)) e ∙ ap (λ x. not (g.bgp_off edge peer) && (not x || links_lead t f edge peer)) alike.ends
      ∙ ap (λ view. not (g.bgp_off edge peer) && (not g.ends || is_some (dist_in (dists_to (wiring_of t) view peer) edge))) same_left

  same_sessions : (edge peer : ℕ) → edge ≢ peer → Contains (edges t) edge → Contains (edges t) peer
      → peers_live (config_under t f) edge peer ≡ peers_live (config_under t g) edge peer
  same_sessions edge peer d i j = elim (leb_tells (suc edge) peer) [
    | inl p ↦ ap (λ b. if b then is_session_left t f edge peer else is_session_left t f peer edge) p.0
        ∙ same_session edge peer (alike.sessions edge peer p.1 i j)
        ∙ sym (ap (λ b. if b then is_session_left t g edge peer else is_session_left t g peer edge) p.0)
    | inr p ↦ ap (λ b. if b then is_session_left t f edge peer else is_session_left t f peer edge) p.0
        ∙ same_session peer edge (alike.sessions peer edge (other_way p.1 d) j i)
        ∙ sym (ap (λ b. if b then is_session_left t g edge peer else is_session_left t g peer edge) p.0)
  ]
    where
      other_way : peer < suc edge → edge ≢ peer → peer < edge
      other_way h d = grind (arith, h, d)

  pub alike_under : IsUnder t (config_under t f) g
  alike_under = record {
    links = λ l h. ap not (alike.links l h);
    ldp = λ l h. ap not (alike.ldp l h);
    sessions = same_sessions;
    imports = λ v h. refl;
    exports = λ v h. refl;
    statics = refl;
    attached = λ s h. refl;
  }

pub alike_fates : (t : Network) (f g : Failure) (s ttl address : ℕ) → IsLawful t → AreAlike t f g → s < length t.sites
    → fate_under t f s ttl address ≡ fate_under t g s ttl address
alike_fates t f g s ttl address lawful alike there = fates t (config_under t f) g s ttl address lawful (alike_under t f g alike) there
