-- Two edges with a reflector between them come to rest.
use Rattle.std.proofs.Common.{ℕ, ◌≡◌, ◌<◌, inl, inr, true, false, [], ◌∷◌, refl, arith, sym, ◌∙◌, subst}
use Rattle.std.specs.Prelude.{◌==◌}
use Rattle.mn_base.proofs.Bools.{no, or_ways, same_numbers}
use Rattle.mn_base.proofs.Members.{In, in_contained}
use Rattle.mn_topo.specs.VrfTable.{is_edge}
use Rattle.mn_ledger.specs.Places.{edges}
use Rattle.mn_ledger.specs.Bgp.{peers_live}
use Rattle.mn_ledger.proofs.TwoLinks.{two_links}
use Rattle.mn_reflect_ledger_laws.specs.Picks.{is_reflector}
use Rattle.mn_reflect_ledger_laws.specs.World.{world_of}
use Rattle.mn_reflect_ledger_laws.specs.TwoEdges.{by_p}
use Rattle.mn_reflect_world_laws.specs.AtRest.{until_rest, ComeToRest}

only_p : (node : ℕ) → is_reflector by_p node ≡ true → 1 ≡ node
only_p node h = elim (or_ways (1 == node) false h) [ inl e ↦ same_numbers 1 node e | inr e ↦ absurd (no e) ]

by_edge : (edge : ℕ) → In (0 ∷ 2 ∷ []) edge →
    (node : ℕ) × (is_reflector by_p node ≡ true) × (peers_live (world_of two_links by_p until_rest).config edge node ≡ true)
by_edge edge i = elim i [
  | inl e ↦ (1, refl, subst (λ n. peers_live (world_of two_links by_p until_rest).config n 1 ≡ true) e refl)
  | inr j ↦ elim j [
    | inl e ↦ (1, refl, subst (λ n. peers_live (world_of two_links by_p until_rest).config n 1 ≡ true) e refl)
    | inr k ↦ absurd k
  ]
]

pub come_to_rest : ComeToRest
come_to_rest = record {
  are = record {
    nodes = λ node h. subst (λ n. n < 3) (only_p node h) (omega arith);
    no_edges = λ node h. subst (λ n. is_edge two_links.vrfs n ≡ false) (only_p node h) refl;
  };
  taken = (refl, (refl, (refl, (refl, (refl, (refl, (refl, (refl, (refl, (refl, (refl, (refl, (refl, (refl, tt))))))))))))));
  done = (refl, (refl, (refl, (refl, (refl, (refl, (refl, (refl, (refl, (refl, (refl, (refl, (refl, (refl, tt))))))))))))));
  quiet = refl;
  joined = record {
    each_edge = λ edge c. by_edge edge (in_contained (edges two_links) edge c);
    each_two = λ one other h g apart. absurd (apart (sym (only_p one h) ∙ only_p other g));
  };
}
