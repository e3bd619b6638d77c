-- The VRFs that are read meet the rules.
use Rattle.std.proofs.Common.{◌≡◌, ◌≤◌, ◌<◌, ◌+◌, ℕ, arith, length, length-append, Bool, true, false, not, ◌&&◌, ◌||◌, ◌==◌, nat_le, if◌then◌else◌, List}
use Rattle.std.proofs.Common.{[], ◌∷◌, ◌++◌, Option, Some, None, is_none, unwrap_or, option_and_then, option_map, codes, refl, ap, ◌∙◌, subst}
use Rattle.std.specs.List.{list_any}
use Rattle.std.specs.Cmp.{nat_eq_equiv}
use Rattle.std.proofs.lemmas.Bool.{leb-false, and_from, or_parts, not-false}
use Rattle.std.proofs.lemmas.List.Sums.{fold_push}
use Rattle.toml.specs.Data.{Items, no_items, item, Members, as_str}
use Rattle.mn_base.specs.Numbers.{has_rd_form, has_rt_form}
use Rattle.mn_base.specs.declared.numbers.Rd.{Rd}
use Rattle.mn_base.specs.declared.numbers.Rt.{Rt}
use Rattle.mn_text.specs.Pairs.{rd_of, rt_of, pair_of}
use Rattle.mn_text.proofs.Only.{pair_kind_only}
use Rattle.mn_topo.specs.declared.vrfs.VrfDef.{VrfDef}
use Rattle.mn_topo_toml.specs.declared.refusal.TopoRule.TheVariants.{BadName, TwiceNamed, NoSuchName, TwiceRd, BadTarget, TooMany}
use Rattle.mn_topo_toml.specs.declared.refusal.Place.TheVariants.{Vrf}
use Rattle.mn_topo_toml.specs.Tables.{text_at, items_at}
use Rattle.mn_topo_toml.specs.Names.{number_named}
use Rattle.mn_topo_toml.specs.Nodes.{name_of}
use Rattle.mn_topo_toml.specs.Rules.{broken}
use Rattle.mn_topo.specs.VrfTable.{VrfTable, has_rd, is_edge, with_edge, edges_of}
use Rattle.mn_topo_toml.specs.Vrfs.{rd_at, is_rd_taken, has_target, next_target, targets_from, targets_at, vrf_head_rule, vrf_head_rules, is_65th_edge}
use Rattle.mn_topo_toml.specs.Vrfs.{vrf_rule}
use Rattle.mn_topo_toml.specs.Vrfs.{vrf_in, with_vrf, vrfs_from}
use Rattle.mn_topo.specs.Lawful.{AreTargets, AreVrfs, is_vrf_of}
use Rattle.mn_topo_toml.proofs.LawfulEntries.{all_kept, kept, AreReadInTurn, all_push, apart_push, distinct_push, names_push}
use Rattle.mn_topo_toml.proofs.LawfulLinks.{named_within}
use Rattle.mn_topo.proofs.Targets.{no_targets}
use Rattle.mn_topo.proofs.Edges.{edges_from}

rd_formed : (pair : Option ℕ) → (n : ℕ) →
    ((m : ℕ) → pair ≡ Some m → has_rd_form m ≡ true) → is_none (option_map (λ n. let rd : Rd = record { 0 = n } in rd) pair) ≡ false →
    has_rd_form (unwrap_or (option_map (λ n. let rd : Rd = record { 0 = n } in rd) pair) (record { 0 = n })).0 ≡ true
rd_formed None n form h = cc
rd_formed (Some m) n form h = form m refl

rd_text_formed : (text : Option (List ℕ)) → is_none (option_and_then rd_of text) ≡ false →
    has_rd_form (unwrap_or (option_and_then rd_of text) (record { 0 = 0 })).0 ≡ true
rd_text_formed None h = cc
rd_text_formed (Some word) h = rd_formed (pair_of 0 1 word) 0 (λ m e. pair_kind_only 0 1 word m (λ same. absurd (omega arith)) e) h

-- a distinguisher that is there and isn't taken is a new one
fresh_rd : (earlier : VrfTable) (rd : Option Rd) → is_none rd ≡ false → is_rd_taken earlier rd ≡ false →
    has_rd earlier.vrfs (unwrap_or rd (record { 0 = 0 })) ≡ false
fresh_rd earlier None h k = cc
fresh_rd earlier (Some rd) h k = k

target_formed : (word : List ℕ) (target : Rt) → rt_of word ≡ Some target → has_rt_form target.0 ≡ true
target_formed word target h =
    elim (pair_of 0x0002 0x0102 word) as (λ p. pair_of 0x0002 0x0102 word ≡ p → option_map (λ n. let rt : Rt = record { 0 = n } in rt) p ≡ Some target →
    has_rt_form target.0 ≡ true) [
      | None ↦ λ e k. cc
      | Some n ↦ λ e k.
          let same : n ≡ target.0 = cc in
          rw (← same) (pair_kind_only 0x0002 0x0102 word n (λ same. absurd (omega arith)) e)
    ] refl h

targets_push : (earlier : List Rt) (target : Rt) → AreTargets earlier → has_rt_form target.0 ≡ true → has_target earlier target ≡ false →
    nat_le 16 (length earlier) ≡ false → AreTargets (earlier ++ target ∷ [])
targets_push earlier target h form fresh room = record {
  few = rw length-append (let below : length earlier < 16 = leb-false _ _ room in omega arith);
  formed = all_push (λ t. has_rt_form t.0) earlier target h.formed form;
  distinct = distinct_push (λ one other. one.0 == other.0) (λ x y. nat_eq_equiv.symm x.0 y.0) earlier target h.distinct fresh;
}

abbrev chosen : List Rt → Rt → Bool → Option Rt
chosen earlier target b = if b then None else Some target

next_lawful : (earlier : List Rt) (found : Option Rt) (target : Rt) →
    ((t : Rt) → found ≡ Some t → has_rt_form t.0 ≡ true) →
    option_and_then (λ t. chosen earlier t (has_target earlier t || nat_le 16 (length earlier))) found ≡ Some target → AreTargets earlier →
    AreTargets (earlier ++ target ∷ [])
next_lawful earlier None target form h k = cc
next_lawful earlier (Some t) target form h k =
    elim (has_target earlier t || nat_le 16 (length earlier)) as (λ b. (has_target earlier t || nat_le 16 (length earlier)) ≡ b →
    chosen earlier t b ≡ Some target → AreTargets (earlier ++ target ∷ [])) [
      | true ↦ λ e g. cc
      | false ↦ λ e g.
          let same : t ≡ target = cc in
          let parts = or_parts (has_target earlier t) (nat_le 16 (length earlier)) e in
          subst (λ (x : Rt). AreTargets (earlier ++ x ∷ [])) same (targets_push earlier t k (form t refl) parts.0 parts.1)
    ] refl h

text_target : (earlier : List Rt) (text : Option (List ℕ)) (target : Rt) → option_and_then (next_target earlier) text ≡ Some target → AreTargets earlier →
    AreTargets (earlier ++ target ∷ [])
text_target earlier None target h k = cc
text_target earlier (Some word) target h k = next_lawful earlier (rt_of word) target (target_formed word) h k

targets_lawful : (items : Items) (earlier targets : List Rt) → targets_from earlier items ≡ Some targets → AreTargets earlier → AreTargets targets
targets_lawful no_items earlier targets h k = let same : earlier ≡ targets = cc in subst AreTargets same k
targets_lawful (item value items) earlier targets h k =
    elim (option_and_then (next_target earlier) (as_str value)) as (λ o. option_and_then (next_target earlier) (as_str value) ≡ o →
    option_and_then (λ target. targets_from (earlier ++ target ∷ []) items) o ≡ Some targets → AreTargets targets) [
      | None ↦ λ e g. cc
      | Some target ↦ λ e g. targets_lawful items (earlier ++ target ∷ []) targets g (text_target earlier (as_str value) target e k)
    ] refl h

set_lawful : (found : Option (List Rt)) → ((targets : List Rt) → found ≡ Some targets → AreTargets targets) → AreTargets (unwrap_or found [])
set_lawful None h = no_targets
set_lawful (Some targets) h = h targets refl

targets_at_lawful : (key : List ℕ) (entry : Members) → AreTargets (unwrap_or (targets_at key entry) [])
targets_at_lawful key entry = set_lawful (targets_at key entry) (λ targets e. targets_lawful (items_at key entry) [] targets e no_targets)

-- the edges stay few
edges_push : (earlier : VrfTable) (vrf : VrfDef) → length (edges_of earlier.vrfs) ≤ 64 → is_65th_edge earlier vrf.node.0 ≡ false →
    length (edges_of (earlier.vrfs ++ vrf ∷ [])) ≤ 64
edges_push earlier vrf few h = rw (fold_push with_edge [] earlier.vrfs vrf) (
    elim (is_edge earlier.vrfs vrf.node.0) as (λ b. is_edge earlier.vrfs vrf.node.0 ≡ b →
    (not b && nat_le 64 (length (edges_of earlier.vrfs))) ≡ false → length (with_edge (edges_of earlier.vrfs) vrf) ≤ 64) [
      | true ↦ λ e k.
          let there : list_any (λ edge. vrf.node.0 == edge) (edges_of earlier.vrfs) ≡ true = edges_from vrf.node.0 earlier.vrfs [] ∙ e in
          rw there few
      | false ↦ λ e k.
          let absent : list_any (λ edge. vrf.node.0 == edge) (edges_of earlier.vrfs) ≡ false = edges_from vrf.node.0 earlier.vrfs [] ∙ e in
          let room : length (edges_of earlier.vrfs) < 64 = leb-false _ _ k in
          rw (absent, length-append) (omega arith)
    ] refl h)

pub vrf_step : (nodes : List (List ℕ)) (earlier : VrfTable) (entry : Members) → AreVrfs (length nodes) earlier → vrf_rule nodes earlier entry ≡ None →
    AreVrfs (length nodes) (with_vrf nodes earlier entry)
unfolding vrf_rule vrf_head_rule
vrf_step nodes earlier entry h lawful =
    let all = all_kept (vrf_head_rule nodes earlier entry
    ∷ broken ((is_none (rd_at entry) || is_none (targets_at (codes "import") entry)) || is_none (targets_at (codes "export") entry)) BadTarget
    ∷ broken (is_65th_edge earlier (number_named nodes (codes "node") entry)) TooMany ∷ []) lawful in
    let head = all_kept (vrf_head_rules nodes earlier entry) all.0 in
    let sets = or_parts _ _ (kept _ BadTarget all.1.0) in
    let rd = or_parts _ _ sets.0 in
    record {
      named = names_push earlier.names (name_of entry) h.named (not-false _ (kept _ BadName head.1.1.1.0)) (kept _ TwiceNamed head.1.1.1.1.0);
      each = simp length-append (ap (λ n. n + 1) h.each);
      formed = all_push (is_vrf_of (length nodes)) earlier.vrfs (vrf_in nodes entry) h.formed
          (and_from _ _ (named_within nodes (codes "node") entry (kept _ NoSuchName head.1.1.1.1.1.0)) (rd_text_formed (text_at (codes "rd") entry) rd.0));
      distinct =
          distinct_push (λ one other. one.rd.0 == other.rd.0) (λ x y. nat_eq_equiv.symm x.rd.0 y.rd.0) earlier.vrfs (vrf_in nodes entry) h.distinct
          (fresh_rd earlier (rd_at entry) rd.0 (kept _ TwiceRd head.1.1.1.1.1.1.0));
      targets =
          apart_push (λ vrf. AreTargets vrf.import × AreTargets vrf.export) earlier.vrfs (vrf_in nodes entry) h.targets
          (targets_at_lawful (codes "import") entry, targets_at_lawful (codes "export") entry);
      few_edges = edges_push earlier (vrf_in nodes entry) h.few_edges (kept _ TooMany all.1.1.0);
    }

pub vrfs_in_turn : (nodes : List (List ℕ)) →
    AreReadInTurn VrfTable (vrf_rule nodes) (λ earlier. Vrf (length earlier.names)) (with_vrf nodes) (vrfs_from nodes)
vrfs_in_turn nodes = record { ends = λ earlier. refl; goes = λ entry entries earlier. refl }
