-- What contracts see of a network by its fields.
use Rattle.std.specs.Prelude.{◌-◌, vec_len, vec_capacity}
use Rattle.mn_net.specs.declared.net.Net.TheInside.{Inside}
use Rattle.mn_net_laws.specs.Now.{NetNow}

abbrev pub net_in : Inside → NetNow
net_in a =
    record {
      topology = a.topology;
      journal = a.journal.items;
      tick = a.tick;
      made = a.made;
      failed = a.failed;
      transport = a.transport;
      routes = a.routes;
      moving = a.transit;
      tally = a.tally;
      spare = vec_capacity a.journal - vec_len a.journal;
    }
