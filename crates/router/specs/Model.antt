-- A router in the protocol's words.
use Rattle.std.specs.Prelude.{reverse, vec_items}
use Rattle.std.specs.Option.{option_map}
use Rattle.protocol.specs.Router as protocol
use Rattle.router.specs.Transition.{transition_of}
use Rattle.router.specs.declared.router.Router.{Router}
use Rattle.routes.specs.Routes.{routes_network}

-- of what is kept in the order in which it came, the last comes first
abbrev pub model : Router → protocol.Router
model r =
    record {
      me = r.me;
      links = routes_network r.routes;
      removed = reverse (vec_items r.removed);
      transition = option_map transition_of r.transition;
      early = reverse (vec_items r.early);
    }
