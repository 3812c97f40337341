-- One change of a network after another.
use Rattle.std.proofs.Common.{◌≡◌, ◌∙◌}
use Rattle.network.specs.Events.{Becomes}
use Rattle.network.specs.declared.network.Network.{Network}
use Rattle.protocol.specs.System.{System}

pub then : (old mid new : Network) (σ τ : System) → Becomes old mid σ → Becomes mid new τ → Becomes old new τ
then old mid new σ τ a b =
    record {
      is = b.is;
      beside = record {
        nodes = b.beside.nodes ∙ a.beside.nodes;
        packets = b.beside.packets ∙ a.beside.packets;
        paths = λ p. b.beside.paths p ∙ a.beside.paths p;
      };
      over = λ k. b.over k ∙ a.over k;
    }

-- to an equal system
pub equally : (old new : Network) (σ τ : System) → Becomes old new σ → σ ≡ τ → Becomes old new τ
equally old new σ τ b e = record { is = b.is ∙ e; beside = b.beside; over = b.over }
