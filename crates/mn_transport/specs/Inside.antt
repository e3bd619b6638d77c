-- What contracts see of a transport by its fields.
use Rattle.mn_transport.specs.declared.transport.Transport.TheInside.{Inside}
use Rattle.mn_transport_laws.specs.Carried.{Carried}

abbrev pub carried_in : Inside → Carried
carried_in t =
    record {
      nodes = t.nodes.items;
      changes = t.changes;
      switches = t.switches.items;
      labels = t.labels.items;
      notices = t.notices.items;
      messages = t.messages.items;
    }
