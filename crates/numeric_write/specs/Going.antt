-- How a group sink goes on is an order.
use Rattle.std.specs.Prelude.{refl}
use Rattle.std.proofs.Common.{◌∙◌}
use Rattle.division.specs.Order.{Preorder}
use Rattle.numeric_write.specs.Sink.{Goes}

pub goes_order : Preorder Goes
goes_order =
    record {
      stays = λ s. record { lender = refl; step = refl; laid = λ b h. h };
      joins = λ s t u p q. record { lender = q.lender ∙ p.lender; step = q.step ∙ p.step; laid = λ b h. q.laid b (p.laid b h) };
    }
