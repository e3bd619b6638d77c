-- What is asked of a pair, as it was planned.
use Rattle.std.proofs.Common.{ℕ, ◌≡◌, ◌<◌, Bool, true, false, List, map, length, get_or, arith, sym, ◌∙◌, ap, Option, [], ◌∷◌, refl}
use Rattle.std.specs.Prelude.{◌&&◌, if◌then◌else◌, nat_lt, not}
use Rattle.std.specs.List.{list_all, list_any}
use Rattle.std.proofs.lemmas.List.{get_or_default}
use Rattle.std.proofs.lemmas.List.Folds.{list_all-map}
use Rattle.mn_base.proofs.Bools.{and_on}
use Rattle.mn_base.specs.declared.numbers.LinkNo.{LinkNo}
use Rattle.mn_topo.specs.Network.{Network}
use Rattle.mn_ledger.specs.Places.{home_of}
use Rattle.mn_ledger.specs.Held.{HeldRoute}
use Rattle.mn_reach_laws.specs.Fates.{ends_towards}
use Rattle.mn_reach_laws.specs.Candidates.{chosen}
use Rattle.mn_failure_laws.specs.Failures.{no_failure, config_under, is_session_off}
use Rattle.mn_failure_laws.specs.Fates.{fate_under}
use Rattle.mn_failure_laws.proofs.Told.{by_the_chosen}
use Rattle.mn_candidates.specs.declared.pairs.Pair.{Pair}
use Rattle.mn_reach.specs.declared.plan.Candidate.{Candidate}
use Rattle.mn_reach.specs.declared.plan.Prospect.{Prospect}
use Rattle.mn_reach.specs.Plans.{IsOf, held_in, links_between, no_pair, no_prospect, pair_at, prospect_at}
use Rattle.mn_reach.specs.Reaching.{Reaching, failure_of, is_between}
use Rattle.mn_reach.specs.Spared.{is_whole, is_spared}

-- where no session was ended, none of an edge with a candidate's was
pub none_ended : (r : Reaching) (h : ℕ) (cs : List Candidate) → r.ended ≡ [] →
    list_all (λ (c : Candidate). not (is_session_off (failure_of r) h c.route.edge.0)) cs ≡ true
none_ended r h [] e = refl
none_ended r h (c ∷ cs) e = and_on _ _ (ap not (never (nat_lt h c.route.edge.0))) (none_ended r h cs e)
  where
    never : (b : Bool) → (if b then list_any (is_between h c.route.edge.0) r.ended else list_any (is_between c.route.edge.0 h) r.ended) ≡ false
    never true = ap (list_any (is_between h c.route.edge.0)) e
    never false = ap (list_any (is_between c.route.edge.0 h)) e

module _ (t : Network) (r : Reaching) (of : IsOf t r.plan) (k : ℕ) (there : k < length r.plan.pairs) (prospect : Prospect)
    (is_prospect : prospect ≡ get_or r.plan.prospects k prospect) where
  at_prospect : prospect ≡ prospect_at r.plan k
  at_prospect = is_prospect ∙ get_or_default r.plan.prospects k prospect no_prospect (omega (arith, there, of.each))

  -- the links on its ways
  links_are : (whole : Bool) (links : List LinkNo) → whole ≡ list_all (λ (l : LinkNo). is_whole r l.0) links → links ≡ prospect.links
      → whole ≡ list_all (is_whole r) (links_between t (home_of t (pair_at r.plan k).site.0) (prospect_at r.plan k).candidates)
  links_are whole links e is =
      e ∙ ap (λ ls. list_all (λ (l : LinkNo). is_whole r l.0) ls) (is ∙ ap (λ (p : Prospect). p.links) at_prospect)
      ∙ sym (list_all-map (is_whole r) (λ (l : LinkNo). l.0) (prospect_at r.plan k).links) ∙ ap (list_all (is_whole r)) (of.planned k there).links

  module _ (pair : Pair) (is_pair : pair ≡ get_or r.plan.pairs k pair) (home : ℕ) (is_home : home ≡ home_of t pair.site.0) (cs : List Candidate)
      (is_cs : cs ≡ prospect.candidates) where
    home_is : home ≡ home_of t (pair_at r.plan k).site.0
    home_is = is_home ∙ ap (λ (p : Pair). home_of t p.site.0) (is_pair ∙ get_or_default r.plan.pairs k pair no_pair there)

    cs_are : cs ≡ (prospect_at r.plan k).candidates
    cs_are = is_cs ∙ ap (λ (p : Prospect). p.candidates) at_prospect

    pub fate_is : (ttl : ℕ) (o : Option HeldRoute) → o ≡ chosen t (config_under t (failure_of r)) home (map held_in cs)
        → ends_towards t (config_under t (failure_of r)) home ttl o ≡ fate_under t (failure_of r) (pair_at r.plan k).site.0 ttl (pair_at r.plan k).address
    fate_is ttl o e =
        ap (ends_towards t (config_under t (failure_of r)) home ttl) e
        ∙ ap (λ h. ends_towards t (config_under t (failure_of r)) h ttl (chosen t (config_under t (failure_of r)) h (map held_in cs))) home_is
        ∙ ap (λ xs. ends_towards t (config_under t (failure_of r)) (home_of t (pair_at r.plan k).site.0) ttl
        (chosen t (config_under t (failure_of r)) (home_of t (pair_at r.plan k).site.0) (map held_in xs))) cs_are
        ∙ sym (by_the_chosen t (failure_of r) no_failure (pair_at r.plan k).site.0 ttl (pair_at r.plan k).address
        (map held_in (prospect_at r.plan k).candidates)
        of.lawful (of.planned k there).candidates)

    -- its links are whole, and so its sessions decide
    pub spared_by : (whole kept : Bool) (links : List LinkNo) → whole ≡ list_all (λ (l : LinkNo). is_whole r l.0) links → links ≡ prospect.links → whole ≡ true
        → kept ≡ list_all (λ (c : Candidate). not (is_session_off (failure_of r) home c.route.edge.0)) cs → kept ≡ is_spared t r k
    spared_by whole kept links e is so f =
        f ∙ ap (λ h. list_all (λ (c : Candidate). not (is_session_off (failure_of r) h c.route.edge.0)) cs) home_is
        ∙ ap (λ xs. list_all (λ (c : Candidate). not (is_session_off (failure_of r) (home_of t (pair_at r.plan k).site.0) c.route.edge.0)) xs) cs_are
        ∙ sym (ap (λ b. b && list_all (λ (c : Candidate). not (is_session_off (failure_of r) (home_of t (pair_at r.plan k).site.0) c.route.edge.0))
        (prospect_at r.plan k).candidates) (sym (links_are whole links e is) ∙ so))

  pub not_spared : (whole : Bool) (links : List LinkNo) → whole ≡ list_all (λ (l : LinkNo). is_whole r l.0) links → links ≡ prospect.links → whole ≡ false
      → whole ≡ is_spared t r k
  not_spared whole links e is so =
      so ∙ sym (ap (λ b. b && list_all (λ (c : Candidate). not (is_session_off (failure_of r) (home_of t (pair_at r.plan k).site.0) c.route.edge.0))
      (prospect_at r.plan k).candidates) (sym (links_are whole links e is) ∙ so))
