-- `answer_write::write_success`. The status, and the payload in its head behind it.
-- Assumes nothing.
use native.Mathlib.Omega.{arith}
use mathlib.Core.Path.{refl, ◌∙◌}
use Prim.Native.Nat.{◌+◌}
use Rattle.tags.specs.Tags.{response_payload}
use Rattle.ttlv.specs.Items.{nil, group}
use Rattle.ttlv_put.specs.Write.{join}
use Rattle.named_write.specs.Puts.{Puts}
use Rattle.named_write.proofs.Compose.{puts_then, puts_within, puts_around}
use Rattle.answer_write.proofs.Success.{status, status_left, payload_room}
use Rattle.answer_write.proofs.write_success.Goals as goal

pub write_around-n-requires : goal.write_around-n-requires
write_around-n-requires g c =
    let w = c.write_number.ensures in
    let e = payload_room w c.requires.room in
    record {
      room = omega (arith, status_left w c.requires.room);
      callable = λ p q. c.requires.callable p (q ∙ e);
      within = λ n left ran. omega (arith, status_left w c.requires.room, c.requires.within n left (rw e at ran));
    }

pub overflow_add-result : goal.overflow_add-result
overflow_add-result g c =
    let a = c.write_around-n.ensures in
    omega (arith, a.answer, c.requires.within _ _ (rw (payload_room c.write_number.ensures c.requires.room) at a.ran))

pub returns : goal.returns
unfolding join
returns g c most t p s =
    let e = payload_room c.write_number.ensures c.requires.room in
    let payload : Puts (8 + most) (group response_payload t nil) _ _ c.write_around-n.result = puts_around most refl (λ n left ran. rw e (p n left (rw e at ran))) c.write_around-n.ensures (omega (arith, status_left c.write_number.ensures c.requires.room)) (omega arith) in
    puts_within (puts_then (status c.write_number.ensures c.requires.room) payload) (omega arith)
