-- What becomes of a pair under the parts that have failed.
use Rattle.std.proofs.Common.{◌≡◌, ◌<◌, ℕ, Bool, true, false, List, [], ◌∷◌, length, get_or, map, refl, ap, sym, ◌∙◌, subst}
use Rattle.std.specs.Prelude.{not, ◌==◌, ◌&&◌, if◌then◌else◌}
use Rattle.std.specs.Str.{bytes_eq}
use Rattle.std.proofs.lemmas.List.{length-map, get_or-map}
use Rattle.mn_base.proofs.Bools.{and_on, same_test}
use Rattle.mn_topo.specs.Network.{Network}
use Rattle.mn_topo.specs.Lawful.{IsLawful}
use Rattle.mn_fate_laws.specs.Fate.{Fate, Arrives, Falls}
use Rattle.mn_failure_laws.specs.Failures.{Failure, AreAlike}
use Rattle.mn_failure_laws.specs.Fates.{fate_under}
use Rattle.mn_candidates.specs.declared.pairs.Pair.{Pair}
use Rattle.mn_candidates.specs.Pairs.{pairs_of}
use Rattle.mn_failures.specs.declared.command.Part.{Part}
use Rattle.mn_failures.specs.Meaning.{is_down, is_ldp_off}
use Rattle.mn_reach.specs.Plans.{no_pair, pair_at}
use Rattle.mn_failures.specs.declared.command.Resolve.{Resolve}
use Rattle.mn_reach.specs.Reaching.{Reaching, failure_of, nothing_gone}
use Rattle.mn_reach.specs.Verdicts.{resolving}
use Rattle.mn_reach.proofs.Resolved.{lawful_so}
use Rattle.mn_reach_run.specs.declared.settings.Settings.{Settings}
use Rattle.mn_reach_run.specs.declared.change.Change.TheVariants.{Nothing, Moved}
use Rattle.mn_reach_run.specs.Fates.{failure_under, resolves, network_by, fate_of, change_between}
use Rattle.mn_reach_run.specs.Playing.{HaveFailed, IsReady}

not_not : (b : Bool) → not (not b) ≡ b
not_not true = refl
not_not false = refl

-- resolution changes nothing of what is lawful
pub lawful_by : (topology : Network) (resolve : Resolve) → IsLawful topology → IsLawful (network_by topology resolve)
lawful_by topology resolve is = lawful_so topology (resolves resolve topology.resolve) is

-- alike failures have the same fates
abbrev pub HasFates : Network → Type 0
HasFates topology = (failure other : Failure) (s ttl address : ℕ) → IsLawful topology → AreAlike topology failure other → s < length topology.sites →
    fate_under topology failure s ttl address ≡ fate_under topology other s ttl address

pub are_alike : (topology : Network) (resolve : Resolve) (ends : Bool) (parts : List Part) (reaching : Reaching) → HaveFailed topology ends parts reaching →
    AreAlike (network_by topology resolve) (failure_of reaching) (failure_under topology ends parts)
are_alike topology resolve ends parts reaching h = record {
  links = λ l below. ap not (h.up l below) ∙ not_not (is_down topology parts l);
  ldp = λ l below. ap not (h.ldp l below) ∙ not_not (is_ldp_off parts l);
  sessions = λ edge peer less one other. h.sessions edge peer;
  ends = h.ending;
}

-- a pair is of a site of the topology
pub site_there : (topology : Network) (reaching : Reaching) → IsReady topology reaching → (k : ℕ) → k < length (pairs_of topology) →
    (pair_at reaching.plan k).site.0 < length topology.sites
site_there topology reaching ready k below = ready.of.sites k no_pair (subst (λ (ps : List Pair). k < length ps) (sym ready.pairs) below)

-- a verdict under the failure that was made is the one under its parts
module _ (topology : Network) (settings : Settings) (parts : List Part) (reaching : Reaching) (ready : IsReady topology reaching)
    (failed : HaveFailed topology settings.ends parts reaching) (k : ℕ) (below : k < length (pairs_of topology))
    (alike : HasFates (network_by topology settings.resolve)) where
  -- on the terms of the settings
  pub on_terms : (resolve : Bool) (fate : Fate) → resolve ≡ resolves settings.resolve topology.resolve →
      fate ≡ fate_under (resolving topology resolve) (failure_of reaching) (pair_at reaching.plan k).site.0 settings.ttl (pair_at reaching.plan k).address →
      fate ≡ fate_under (network_by topology settings.resolve) (failure_of reaching) (pair_at reaching.plan k).site.0 settings.ttl
      (pair_at reaching.plan k).address
  on_terms resolve fate is fated =
      fated ∙ ap (λ r. fate_under (resolving topology r) (failure_of reaching) (pair_at reaching.plan k).site.0 settings.ttl
      (pair_at reaching.plan k).address) is

  pub under_parts : fate_under (network_by topology settings.resolve) (failure_of reaching) (pair_at reaching.plan k).site.0 settings.ttl
      (pair_at reaching.plan k).address
      ≡ fate_of topology settings parts (pair_at reaching.plan k)
  under_parts =
      alike (failure_of reaching) (failure_under topology settings.ends parts) (pair_at reaching.plan k).site.0 settings.ttl (pair_at reaching.plan k).address
      (lawful_by topology settings.resolve ready.of.lawful) (are_alike topology settings.resolve settings.ends parts reaching failed)
      (site_there topology reaching ready k below)

  -- and one with nothing failed is the one under no parts
  pub under_none : fate_under (network_by topology settings.resolve) (nothing_gone reaching.ends) (pair_at reaching.plan k).site.0 settings.ttl
      (pair_at reaching.plan k).address
      ≡ fate_of topology settings [] (pair_at reaching.plan k)
  under_none =
      alike (nothing_gone reaching.ends) (failure_under topology settings.ends []) (pair_at reaching.plan k).site.0 settings.ttl
      (pair_at reaching.plan k).address
      (lawful_by topology settings.resolve ready.of.lawful)
      (record { links = λ l there. refl; ldp = λ l there. refl; sessions = λ edge peer less one other. refl; ends = failed.ending })
      (site_there topology reaching ready k below)

-- 2. What was found with nothing failed, by its place

pub found_at : {X : Type 0} {Y : Type 0} (f : X → Y) {Z : Type 0} (g : Z → Y) (xs : List X) (zs : List Z) (k : ℕ) (x : X) (z : Z) → map f xs ≡ map g zs →
    k < length zs →
    x ≡ get_or xs k x → z ≡ get_or zs k z → f x ≡ g z
found_at f g xs zs k x z same below is_x is_z =
    let each : length xs ≡ length zs = sym (length-map xs f) ∙ ap length same ∙ length-map zs g in
    ap f is_x ∙ sym (get_or-map f xs k x (g z) (subst (λ n. k < n) (sym each) below)) ∙ ap (λ ys. get_or ys k (g z)) same
    ∙ get_or-map g zs k z (g z) below ∙ sym (ap g is_z)

-- 3. What doesn't change

pub same_path : (path : List ℕ) → bytes_eq path path ≡ true
same_path [] = refl
same_path (node ∷ path) = and_on (node == node) (bytes_eq path path) (same_test node) (same_path path)

pub no_change : (fate : Fate) → change_between fate fate ≡ Nothing
no_change (Arrives site ttl path) =
    ap (λ b. if b then Nothing else Moved)
    (and_on (site == site) ((ttl == ttl) && bytes_eq path path) (same_test site) (and_on (ttl == ttl) (bytes_eq path path) (same_test ttl) (same_path path)))
no_change (Falls rule node path) = refl
