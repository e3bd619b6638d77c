-- The sites that are read meet the rules.
use Rattle.std.proofs.Common.{◌≡◌, ◌≤◌, ◌+◌, ℕ, length, length-append, append_assoc, false, nat_lt, List, [], ◌∷◌, ◌++◌, None, codes, refl, ap}
use Rattle.std.proofs.Common.{◌∙◌}
use Rattle.std.specs.List.{IsDistinct}
use Rattle.std.specs.Cmp.{nat_eq_equiv}
use Rattle.std.proofs.lemmas.Bool.{ltb-false, or_parts, not-false}
use Rattle.std.proofs.lemmas.List.{length-map, append-nil}
use Rattle.std.proofs.lemmas.List.Concat.{flat_map-append}
use Rattle.toml.specs.Data.{Members}
use Rattle.mn_prefix.specs.Prefix.{AddressBlock}
use Rattle.mn_topo.specs.declared.sites.SiteDef.{SiteDef}
use Rattle.mn_topo_toml.specs.declared.refusal.TopoRule.TheVariants.{BadName, TwiceNamed, NoSuchName, PrefixTaken, TooMany}
use Rattle.mn_topo_toml.specs.declared.refusal.Place.TheVariants.{Site}
use Rattle.mn_topo_toml.specs.Names.{number_named}
use Rattle.mn_topo_toml.specs.Nodes.{name_of}
use Rattle.mn_topo_toml.specs.Rules.{broken}
use Rattle.mn_topo.specs.SiteTable.{SiteTable, Static, in_vrf, statics_of, stands, is_one_taken}
use Rattle.mn_topo_toml.specs.Sites.{prefixes_of, site_head_rule, site_head_rules, is_prefix_taken, are_too_many, site_rule, site_in, with_site, sites_from}
use Rattle.mn_topo.specs.Lawful.{AreSites, same_static}
use Rattle.mn_topo_toml.proofs.LawfulEntries.{all_kept, kept, AreReadInTurn, all_push, distinct_push, names_push}
use Rattle.mn_topo_toml.proofs.LawfulLinks.{named_within}
use Rattle.mn_topo_toml.proofs.Prefixes.{statics_lawful}

same_static-flip : (one other : Static) → same_static one other ≡ same_static other one
same_static-flip one other =
    rw (nat_eq_equiv.symm one.0 other.0, nat_eq_equiv.symm one.1.address other.1.address, nat_eq_equiv.symm one.1.length other.1.length) refl

-- prefixes of which none stands in the VRF
statics_push : (prefixes : List AddressBlock) (statics : List Static) (vrf : ℕ) → IsDistinct same_static statics →
    is_one_taken prefixes statics vrf ≡ false → IsDistinct same_static (statics ++ in_vrf vrf prefixes)
statics_push [] statics vrf h k = rw append-nil h
statics_push (prefix ∷ prefixes) statics vrf h k =
    let parts = or_parts (stands statics vrf prefix) (is_one_taken prefixes (statics ++ (vrf, prefix) ∷ []) vrf) k in
    let one = distinct_push same_static same_static-flip statics (vrf, prefix) h parts.0 in
    rw (← append_assoc statics ((vrf, prefix) ∷ []) (in_vrf vrf prefixes)) (statics_push prefixes (statics ++ (vrf, prefix) ∷ []) vrf one parts.1)

pub statics_of-push : (sites : List SiteDef) (site : SiteDef) → statics_of (sites ++ site ∷ []) ≡ statics_of sites ++ in_vrf site.vrf.0 site.prefixes
statics_of-push sites site =
    flat_map-append (λ s. in_vrf s.vrf.0 s.prefixes) sites (site ∷ [])
    ∙ ap (λ last. statics_of sites ++ last) (append-nil (in_vrf site.vrf.0 site.prefixes))

pub site_step : (vrfs : List (List ℕ)) (earlier : SiteTable) (entry : Members) → AreSites (length vrfs) earlier → site_rule vrfs earlier entry ≡ None →
    AreSites (length vrfs) (with_site vrfs earlier entry)
unfolding site_rule site_head_rule
site_step vrfs earlier entry h lawful =
    let all = all_kept (site_head_rule vrfs earlier entry
    ∷ broken (is_prefix_taken earlier (number_named vrfs (codes "vrf") entry) (prefixes_of entry)) PrefixTaken
    ∷ broken (are_too_many earlier (prefixes_of entry)) TooMany ∷ []) lawful in
    let head = all_kept (site_head_rules vrfs earlier entry) all.0 in
    let few : length (statics_of earlier.sites) + length (prefixes_of entry) ≤ 65536 = ltb-false _ _ (kept _ TooMany all.1.1.0) in
    record {
      named = names_push earlier.names (name_of entry) h.named (not-false _ (kept _ BadName head.1.1.1.0)) (kept _ TwiceNamed head.1.1.1.1.0);
      each = simp length-append (ap (λ n. n + 1) h.each);
      placed = all_push (λ site. nat_lt site.vrf.0 (length vrfs)) earlier.sites (site_in vrfs entry) h.placed
          (named_within vrfs (codes "vrf") entry (kept _ NoSuchName head.1.1.1.1.1.0));
      formed = rw (statics_of-push earlier.sites (site_in vrfs entry))
          (statics_lawful (statics_of earlier.sites) (number_named vrfs (codes "vrf") entry) entry h.formed);
      distinct =
          rw (statics_of-push earlier.sites (site_in vrfs entry))
          (statics_push (prefixes_of entry) (statics_of earlier.sites) (number_named vrfs (codes "vrf") entry) h.distinct (kept _ PrefixTaken all.1.0));
      few_prefixes = rw (statics_of-push earlier.sites (site_in vrfs entry), length-append, length-map) few;
    }

pub sites_in_turn : (vrfs : List (List ℕ)) →
    AreReadInTurn SiteTable (site_rule vrfs) (λ earlier. Site (length earlier.names)) (with_site vrfs) (sites_from vrfs)
sites_in_turn vrfs = record { ends = λ earlier. refl; goes = λ entry entries earlier. refl }
