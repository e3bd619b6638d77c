use Rattle.std.proofs.Common.{◌≡◌, ◌++◌, drop, take}
use Rattle.mn_topo.specs.SiteTable.{is_one_taken, in_vrf}
use Rattle.mn_topo_toml.proofs.statics.Statics.add_all.Given as goal

abbrev pub invariant-loop-prefix : goal.invariant-loop-prefix
invariant-loop-prefix l = record {
  rest : is_one_taken (drop l.prefix-index l.prefixes) l.self l.vrf ≡ is_one_taken l.prefixes l.fn.self l.vrf;
  added : l.self ≡ l.fn.self ++ in_vrf l.vrf (take l.prefix-index l.prefixes);
}
