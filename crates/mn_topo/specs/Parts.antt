-- The topology that parts make.
use Rattle.mn_topo.specs.declared.topology.Parts.{Parts}
use Rattle.mn_topo.specs.Network.{Network}

abbrev pub network_of : Parts → Network
network_of parts = record {
  asn = parts.asn;
  notice_delay = parts.notice_delay;
  bgp_delay = parts.bgp_delay;
  node_names = parts.nodes.names;
  loopbacks = parts.nodes.loopbacks;
  links = parts.links;
  vrf_names = parts.vrfs.names;
  vrfs = parts.vrfs.vrfs;
  site_names = parts.sites.names;
  sites = parts.sites.sites;
  resolve = parts.resolve;
}
