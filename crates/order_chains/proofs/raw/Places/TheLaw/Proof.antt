-- A `&` to the places reaches each node. Assumes `Logic`.
use denote.Param.Shared.{copy_shared}
use denote.Struct.Field.{RawPtr-field}
use denote.Struct.Laws.{RawPtr-copy}
use denote.Struct.Lending.{of_Lends}
use Rattle.order_chains.specs.contracts.raw.Places as C
use Rattle.order_chains.proofs.raw.Places.TheLaw.Statement.{statement}
use Rattle.order_chains.proofs.Sharing.{lends_places}

pub shares : statement
shares = of_Lends C.struct C.the_codes C.the_heap C.the_lent (λ d p. (lends_places d.at d.nodes).0) (copy_shared RawPtr-field RawPtr-copy, tt)
    (λ M 𝓤 𝓛 d p. (lends_places d.at d.nodes).1 M 𝓤 𝓛 C.the_row.lives)
