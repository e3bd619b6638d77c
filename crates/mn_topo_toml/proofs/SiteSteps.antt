-- One entry more of the array of sites.
use Rattle.std.proofs.Common.{◌≡◌, ℕ, ◌+◌, List, [], ◌∷◌, ◌++◌, length, Result, Ok, Err, refl, ap, sym, ◌∙◌}
use Rattle.std.proofs.lemmas.List.{length-append}
use Rattle.toml.specs.Data.{Members}
use Rattle.mn_topo.specs.SiteTable.{SiteTable, Static, statics_of}
use Rattle.mn_topo.specs.declared.sites.SiteDef.{SiteDef}
use Rattle.mn_topo_toml.specs.declared.refusal.TopoRule.{TopoRule}
use Rattle.mn_topo_toml.specs.declared.refusal.Place.TheVariants.{Site}
use Rattle.mn_topo_toml.specs.Rules.{unless_broken}
use Rattle.mn_topo_toml.specs.Nodes.{name_of}
use Rattle.mn_topo_toml.specs.Sites.{IsSite, IsOneMore, AddsSite, with_site, sites_from}
use Rattle.mn_topo_toml.proofs.LawfulSites.{statics_of-push}

module _ (vrfs : List (List ℕ)) (earlier : SiteTable) (statics : List Static) (entry : Members) where
  -- an entry that is refused is what is answered of the rest
  pub refused_next : (entries : List Members) (read : Result SiteTable TopoRule) (rule : TopoRule) → AddsSite vrfs earlier statics entry read → read ≡ Err rule
      → sites_from vrfs (entry ∷ entries) earlier ≡ Err (rule, Site (length earlier.names))
  refused_next entries (Err other) rule h e = let same : other ≡ rule = cc in rw (h, same) refl
  refused_next entries (Ok found) rule h e = cc

  -- one that is not adds a site before the rest
  pub record IsReadOn (entries : List Members) (later : SiteTable) : Type 0 where
    pub rest : sites_from vrfs (entry ∷ entries) earlier ≡ sites_from vrfs entries later
    pub statics_are : statics ≡ statics_of later.sites
    pub count : length later.names ≡ length earlier.names + 1

  pub added_next : (entries : List Members) (read : Result SiteTable TopoRule) (later : SiteTable) → AddsSite vrfs earlier statics entry read → read ≡ Ok later
      → IsReadOn entries later
  added_next entries (Ok found) later h e =
      let same : found ≡ later = cc in
      record {
        rest = ap (λ rule. unless_broken rule (Site (length earlier.names)) (sites_from vrfs entries (with_site vrfs earlier entry))) h.lawful
            ∙ ap (sites_from vrfs entries) (sym h.later_is ∙ same);
        statics_are = h.statics_are ∙ ap (λ t. statics_of t.sites) same;
        count = ap (λ t. length t.names) (sym same ∙ h.later_is) ∙ length-append earlier.names (name_of entry ∷ []);
      }
  added_next entries (Err rule) later h e = cc

  pub site_added : (name : List ℕ) (site : SiteDef) (later : SiteTable) → IsSite vrfs earlier statics entry name site →
      later ≡ record { names = earlier.names ++ name ∷ []; sites = earlier.sites ++ site ∷ [] } → IsOneMore vrfs earlier statics entry later
  site_added name site later h e = record {
    lawful = h.lawful;
    later_is = e ∙ rw (h.name_is, h.site_is) refl;
    statics_are = h.statics_are ∙ sym (statics_of-push earlier.sites site) ∙ ap (λ t. statics_of t.sites) (sym e);
  }
