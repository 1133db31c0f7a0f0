-- `ttlv_around::write_around`. The call of the body, and what it left back in the room.
-- Assumes nothing.
use mathlib.Core.Path.{refl}
use native.Mathlib.Omega.{arith}
use Rattle.std.specs.Fn.{FnOnceReturnsAtMut}
use Rattle.ttlv_around.specs.Around.{behind_head}
use Rattle.ttlv_around.proofs.Around.{room_behind, room_back}
use Rattle.ttlv_around.proofs.write_around.Goals as goal

pub body-size-requires : goal.body-size-requires
body-size-requires g c = c.requires.callable _ (room_behind c.args.out.now)

pub overflow_add-result : goal.overflow_add-result
overflow_add-result g c =
    let ran : FnOnceReturnsAtMut g.F.FnOnce c.args.body (behind_head c.args.out.now) c.body-size.result c.body-size.new.arg2 = record { shown = _; shows = room_behind c.args.out.now; left = _; met = c.body-size.ensures; leaves = refl } in
    let few = c.requires.within _ _ ran in
    omega arith

pub returns : goal.returns
returns g c = record {
  size = _;
  left = _;
  head = _;
  ran = record { shown = _; shows = room_behind c.args.out.now; left = _; met = c.body-size.ensures; leaves = refl };
  headed = rw (room_back c.args.out.now c.body-size.new.arg2) at c.write_structure.ensures;
  answer = refl;
}
