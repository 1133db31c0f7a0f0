-- The batch item that bytes stand for, by what the field readers answer, and the other way: where the parts of an item stand.
-- Assumes nothing.
use mathlib.Core.Path.{◌≡◌, refl, sym, ap, ap₂, subst, ◌∙◌}
use Prim.Native.Nat.{ℕ, ◌+◌, ◌-◌, ◌^◌, ◌≤◌, ◌<◌}
use native.Mathlib.Omega.{arith}
use mathlib.Core.Bool.{true, false}
use Rattle.std.specs.Prelude.{Option, None, Some}
use mathlib.Core.List.{List, ◌++◌}
use mathlib.Core.Logic.{◌⊎◌, inl, inr, ⊎_elim}
use lib.ListN.{length, take, drop, replicate, length-replicate, length-drop}
use lib.Seq.{drop-drop, sets}
use lib.Dec.{leb, eqb}
use borrow.Author.Tests.{leb-true, eqb-true, eqb-false}
use Rattle.octets.specs.Maybe.{◌>>=◌, ◌>>◌}
use Rattle.octets.specs.Octets.{part, Bytes}
use Rattle.octets.proofs.If.{ifb_true, ifb_false, on_bool}
use Rattle.octets.proofs.Stores.{length_part, sets_over}
use Rattle.ttlv_types.specs.Types.{enumeration, byte_string}
use Rattle.ttlv.specs.Items.{Items}
use Rattle.ttlv.specs.Tree.{is_run, tree_of}
use Rattle.fields.specs.Fields.{bytes_of, optional}
use Rattle.fields.specs.Found.{starts_at, bytes_at, number_at, body_at}
use Rattle.octets.proofs.Bools.{both}
use Rattle.ttlv.proofs.Step.{rest}
use Rattle.fields.proofs.Found.{same_parts, bytes_ends}
use Rattle.ttlv.proofs.Tree.{Rest}
use Rattle.fields.proofs.Lift.{bytes_rest, number_rest, body_rest, body_is_run, word_below}
use Rattle.batch_item.specs.declared.ItemId.{ItemId}
use Rattle.batch_item.specs.declared.ItemParts.{ItemParts}
use Rattle.ttlv.proofs.Sizes.{size}
use Rattle.runs.proofs.Sizes.{run_size}
use Rattle.tags.specs.Tags.{operation_tag, request_payload, unique_batch_item_id}
use Rattle.batch_item.specs.Item.{Asked, id_most, id_length_ok, id_ok, id_bytes, item_in}
use Rattle.batch_item.specs.Readers.{number_end, bytes_end, id_span, id_at, operation_end, payload_at, id_of, parts_in, parts_of}
use Rattle.octets.proofs.Maybe.{not_some, some_is}
use Rattle.octets.proofs.Zeros.{drop_zeros}
use Rattle.fields.proofs.Runs.{tail, tail_none, length_tail, run_behind, ended_yes, ended_not, number_some, number_none, bytes_some, bytes_none, body_some, body_none, optional_there, optional_absent}

-- ---- the ID

abbrev id_field : Items → Option (Option (List ℕ) × Items)
id_field t = optional unique_batch_item_id (bytes_of unique_batch_item_id byte_string) t

-- an ID field that is not allowed: no Byte String, or of another length
record BadId (t : Items) : Type 0 where
  pub given : Option (List ℕ)
  pub behind : Items
  pub read : id_field t ≡ Some (given, behind)
  pub bad : id_ok given ≡ false

pub record IdIs (s : List ℕ) (n next : ℕ) : Type 0 where
  pub given : Option (List ℕ)
  pub read : id_field (tree_of s) ≡ Some (given, tree_of (tail s next))
  pub ok : id_ok given ≡ true
  pub is : id_bytes given ≡ part s 8 n
  pub behind : is_run (tail s next) ≡ true
  pub within : next ≤ length s
  pub most : n ≤ id_most
  pub there : (n ≡ 0) ⊎ (8 + n ≤ next)

span_none : (f : Option (ℕ × ℕ)) → id_span f ≡ None → (f ≡ None) ⊎ ((n : ℕ) × (next : ℕ) × (f ≡ Some (n, next)) × (id_length_ok n ≡ false))
unfolding id_span
span_none None h = inl refl
span_none (Some (n, next)) h =
    on_bool (id_length_ok n)
    (λ y. let q = sym (ifb_true _ _ _ y) ∙ h in let z : ◌≡◌ {A = ℕ} 0 1 = cc in absurd (omega arith))
    (λ w. inr (n, next, refl, w))

span_some : (f : Option (ℕ × ℕ)) {n next : ℕ} → id_span f ≡ Some (n, next) → (f ≡ Some (n, next)) × (id_length_ok n ≡ true)
unfolding id_span
span_some None h = let z : ◌≡◌ {A = ℕ} 0 1 = cc in absurd (omega arith)
span_some (Some (k, l)) {n} {next} h =
    on_bool (id_length_ok k)
    (λ y. let q = sym (ifb_true _ _ _ y) ∙ h in (q, ap id_length_ok (sym (same_parts q).0) ∙ y))
    (λ w. let q = sym (ifb_false _ _ _ w) ∙ h in let z : ◌≡◌ {A = ℕ} 0 1 = cc in absurd (omega arith))

module _ (s : List ℕ) (run : is_run s ≡ true) where
  id_length : {n next : ℕ} → bytes_at s unique_batch_item_id byte_string ≡ Some (n, next) → length (part s 8 n) ≡ n
  id_length {n} {next} e = let w = bytes_ends s unique_batch_item_id byte_string e in length_part s 8 n (omega arith)

  id_read : {n next : ℕ} → starts_at s unique_batch_item_id ≡ true → bytes_at s unique_batch_item_id byte_string ≡ Some (n, next) → id_field (tree_of s) ≡ Some (Some (part s 8 n), tree_of (tail s next))
  unfolding ◌>>=◌
  id_read y e = optional_there s run unique_batch_item_id (bytes_of unique_batch_item_id byte_string) y ∙ rw (bytes_some s run unique_batch_item_id byte_string e)

  id_none : id_at s ≡ None → (id_field (tree_of s) ≡ None) ⊎ BadId (tree_of s)
  unfolding id_at id_ok ◌>>=◌
  id_none e =
      on_bool (starts_at s unique_batch_item_id)
      (λ y. ⊎_elim
      (λ f. inl (optional_there s run unique_batch_item_id (bytes_of unique_batch_item_id byte_string) y ∙ rw (bytes_none s run unique_batch_item_id byte_string f)))
      (λ p. inr (record { given = Some (part s 8 p.0); behind = tree_of (tail s p.1); read = id_read y p.2; bad = ap id_length_ok (id_length p.2) ∙ p.3 }))
      (span_none (bytes_at s unique_batch_item_id byte_string) (sym (ifb_true _ _ _ y) ∙ e)))
      (λ n. let q = sym (ifb_false _ _ _ n) ∙ e in let z : ◌≡◌ {A = ℕ} 0 1 = cc in absurd (omega arith))

  id_some : {n next : ℕ} → id_at s ≡ Some (n, next) → IdIs s n next
  unfolding id_at id_ok id_bytes
  id_some {n} {next} e =
      on_bool (starts_at s unique_batch_item_id)
      (λ y. let p = span_some (bytes_at s unique_batch_item_id byte_string) (sym (ifb_true _ _ _ y) ∙ e) in
      let r = bytes_rest s run unique_batch_item_id byte_string p.0 in
      let w = bytes_ends s unique_batch_item_id byte_string p.0 in
      let m = leb-true n id_most (both (leb 1 n) (leb n id_most) p.1).1 in
      record { given = Some (part s 8 n); read = id_read y p.0; ok = ap id_length_ok (id_length p.0) ∙ p.1; is = refl; behind = run_behind s run r; within = r.within; most = m; there = inr w.0 })
      (λ w. let q = same_parts (sym (ifb_false _ _ _ w) ∙ e) in
      let nz = sym q.0 in
      let z = sym q.1 in
      let t = tail_none s next z in
      record { given = None; read = optional_absent s run unique_batch_item_id (bytes_of unique_batch_item_id byte_string) w ∙ ap (λ (x : List ℕ). Some (None, tree_of x)) (sym t); ok = refl; is = ap (λ (k : ℕ). part s 8 k) (sym nz); behind = ap is_run t ∙ run; within = omega arith; most = omega arith; there = inl nz })

-- ---- the item

-- where the parts of the batch item a stand in its bytes s
pub record ItemShape (s : List ℕ) (a : Asked) : Type 0 where
  pub run : is_run (drop (payload_at s) s) ≡ true
  pub payload : tree_of (drop (payload_at s) s) ≡ a.payload
  pub short : length a.id ≤ id_most
  pub id : part s (operation_end s + 8) (length a.id) ≡ a.id
  pub room : operation_end s + 8 + length a.id ≤ length s
  pub past : payload_at s ≤ length s
  pub below : Bytes s → a.operation < 256 ^ 4

module _ (s : List ℕ) (run : is_run s ≡ true) where
  pub item_no_operation : number_at s operation_tag enumeration ≡ None → item_in (tree_of s) ≡ None
  unfolding item_in ◌>>=◌
  item_no_operation e = rw (number_none s run operation_tag enumeration refl e)

  module _ {v n : ℕ} (e : number_at s operation_tag enumeration ≡ Some (v, n)) where
    item_behind : is_run (tail s n) ≡ true
    item_behind = run_behind s run (number_rest s run operation_tag enumeration e)

    pub operation_end_lem : operation_end s ≡ n
    unfolding operation_end number_end
    operation_end_lem = ap number_end e

    pub item_bad_id : id_at (tail s n) ≡ None → item_in (tree_of s) ≡ None
    unfolding item_in ◌>>=◌ ◌>>◌
    item_bad_id f = go (id_none (tail s n) item_behind f)
      where
        go : (id_field (tree_of (tail s n)) ≡ None) ⊎ BadId (tree_of (tail s n)) → item_in (tree_of s) ≡ None
        go (inl g) = rw (number_some s run operation_tag enumeration refl e, g)
        go (inr g) = rw (number_some s run operation_tag enumeration refl e, g.read, g.bad)

    module _ {k m : ℕ} (f : id_at (tail s n) ≡ Some (k, m)) where
      pub item_id : IdIs (tail s n) k m
      item_id = id_some (tail s n) item_behind f

      pub payload_at_lem : payload_at s ≡ n + m + 8
      unfolding payload_at bytes_end
      payload_at_lem = rw (operation_end_lem, sym (rest s n), f)

      pub item_no_payload : body_at (tail (tail s n) m) request_payload ≡ None → item_in (tree_of s) ≡ None
      unfolding item_in ◌>>=◌ ◌>>◌
      item_no_payload g = rw (number_some s run operation_tag enumeration refl e, item_id.read, item_id.ok, body_none (tail (tail s n) m) item_id.behind request_payload g)

      module _ {l : ℕ} (g : body_at (tail (tail s n) m) request_payload ≡ Some l) where
        payload_rest : Rest (tail (tail s n) m) l
        payload_rest = body_rest (tail (tail s n) m) item_id.behind request_payload g

        -- the item has room for its parts
        pub item_room : (n + m + 8 ≤ length s) × (n + 8 + k ≤ length s)
        item_room =
            let a = length_tail s n in
            let b = length_tail (tail s n) m in
            let w = payload_rest.past in
            let x = payload_rest.within in
            (omega arith, beside item_id.there)
          where
            beside : (k ≡ 0) ⊎ (8 + k ≤ m) → n + 8 + k ≤ length s
            beside (inl z) = let a = length_tail s n in let b = length_tail (tail s n) m in let w = payload_rest.past in let x = payload_rest.within in omega arith
            beside (inr z) = let a = length_tail s n in let y = item_id.within in let b = length_tail (tail s n) m in let w = payload_rest.past in let x = payload_rest.within in omega arith

        pub item_more : (l ≡ length (tail (tail s n) m) → ⊥) → item_in (tree_of s) ≡ None
        unfolding item_in ◌>>=◌ ◌>>◌
        item_more x = rw (number_some s run operation_tag enumeration refl e, item_id.read, item_id.ok, body_some (tail (tail s n) m) item_id.behind request_payload g, ended_not (tail (tail s n) m) item_id.behind payload_rest x)

        module _ (x : l ≡ length (tail (tail s n) m)) where
          pub item_is : item_in (tree_of s) ≡ Some (record { operation = v; id = part (tail s n) 8 k; payload = tree_of (part (tail (tail s n) m) 8 (l - 8)) })
          unfolding item_in ◌>>=◌ ◌>>◌
          item_is = rw (number_some s run operation_tag enumeration refl e, item_id.read, item_id.ok, body_some (tail (tail s n) m) item_id.behind request_payload g, ended_yes (tail (tail s n) m) item_id.behind payload_rest x, item_id.is)

          pub id_there : length (part (tail s n) 8 k) ≡ k
          id_there = let a = length_tail s n in let r = item_room.1 in length_part (tail s n) 8 k (omega arith)

          payload_bytes : part (tail (tail s n) m) 8 (l - 8) ≡ drop (payload_at s) s
          payload_bytes =
              ap (λ (y : ℕ). part (tail (tail s n) m) 8 (y - 8)) x
              ∙ rest (tail (tail s n) m) 8
              ∙ ap (drop 8) (rest (tail s n) m ∙ ap (drop m) (rest s n) ∙ drop-drop m n s)
              ∙ drop-drop 8 (n + m) s
              ∙ ap (λ (y : ℕ). drop y s) (sym payload_at_lem)

          pub item_shape : ItemShape s (record { operation = v; id = part (tail s n) 8 k; payload = tree_of (part (tail (tail s n) m) 8 (l - 8)) })
          item_shape =
              let r = item_room in
              let i = id_there in
              let o = operation_end_lem in
              let p = payload_at_lem in
              record {
                run = ap is_run (sym payload_bytes) ∙ body_is_run (tail (tail s n) m) item_id.behind request_payload g;
                payload = ap tree_of (sym payload_bytes);
                short = (let q = item_id.most in omega arith);
                id = ap₂ (λ (y z : ℕ). part s (y + 8) z) o i ∙ id_bytes_lem;
                room = omega arith;
                past = omega arith;
                below = λ b. word_below s operation_tag enumeration b refl e;
              }
            where
              id_bytes_lem : part s (n + 8) k ≡ part (tail s n) 8 k
              id_bytes_lem = ap (take k) (sym (ap (drop 8) (rest s n) ∙ drop-drop 8 n s))

-- where the parts of a batch item stand
pub shape : (s : List ℕ) (a : Asked) → is_run s ≡ true → item_in (tree_of s) ≡ Some a → ItemShape s a
shape s a run h = operation (number_at s operation_tag enumeration) refl
  where
    payload : {v n k m : ℕ} → number_at s operation_tag enumeration ≡ Some (v, n) → id_at (tail s n) ≡ Some (k, m)
        → (f : Option ℕ) → body_at (tail (tail s n) m) request_payload ≡ f → ItemShape s a
    payload e f None g = absurd (not_some (sym (item_no_payload s run e f g) ∙ h))
    payload {n} {m} e f (Some l) g =
        decide (dec l (length (tail (tail s n) m)))
      where
        dec : (x y : ℕ) → (x ≡ y) ⊎ (x ≡ y → ⊥)
        dec x y = on_bool (eqb x y) (λ t. inl (eqb-true x y t)) (λ t. inr (eqb-false x y t))

        decide : (l ≡ length (tail (tail s n) m)) ⊎ (l ≡ length (tail (tail s n) m) → ⊥) → ItemShape s a
        decide (inl x) = subst (ItemShape s) (some_is (sym (item_is s run e f g x) ∙ h)) (item_shape s run e f g x)
        decide (inr x) = absurd (not_some (sym (item_more s run e f g x) ∙ h))

    identified : {v n : ℕ} → number_at s operation_tag enumeration ≡ Some (v, n) → (f : Option (ℕ × ℕ)) → id_at (tail s n) ≡ f → ItemShape s a
    identified e None f = absurd (not_some (sym (item_bad_id s run e f) ∙ h))
    identified {n} e (Some (k, m)) f = payload e f (body_at (tail (tail s n) m) request_payload) refl

    operation : (f : Option (ℕ × ℕ)) → number_at s operation_tag enumeration ≡ f → ItemShape s a
    operation None e = absurd (not_some (sym (item_no_operation s run e) ∙ h))
    operation (Some (v, n)) e = identified e (id_at (tail s n)) refl

-- ---- the struct that carries the ID, and the parts

pub id_filled : (v bytes : List ℕ) → length v ≤ id_most → bytes ≡ sets (replicate id_most 0) 0 v → record { bytes = bytes; len = length v } ≡ id_of v
unfolding id_of
id_filled v bytes h e =
    let z = length-replicate {A = ℕ} id_most 0 in
    ap (λ (x : List ℕ). record { bytes = x; len = length v }) (e ∙ sets_over v (replicate id_most 0) (omega arith) ∙ ap (λ (x : List ℕ). v ++ x) (drop_zeros (length v) id_most))

-- the parts of an item that was read
module _ (s : List ℕ) (run : is_run s ≡ true) {a : Asked} (h : item_in (tree_of s) ≡ Some a) where
  pub id_fits : length a.id ≤ id_most
  id_fits = (shape s a run h).short

  -- the payload's items end where the item ends
  pub payload_ends : (t : List ℕ) → is_run t ≡ true → tree_of t ≡ a.payload → (length t ≤ length s) × (length s - length t ≡ payload_at s)
  payload_ends t r e =
      let f = shape s a run h in
      let past = f.past in
      let d : length (drop (payload_at s) s) ≡ length s - payload_at s = length-drop (payload_at s) s in
      let x : size (tree_of (drop (payload_at s) s)) ≡ length (drop (payload_at s) s) = run_size (drop (payload_at s) s) f.run in
      let y : size (tree_of t) ≡ length t = run_size t r in
      let z : size (tree_of t) ≡ size (tree_of (drop (payload_at s) s)) = ap size (e ∙ sym f.payload) in
      (omega arith, omega arith)

  pub parts_are : {w : ItemId} {p : ℕ} → w ≡ id_of a.id → p ≡ payload_at s → record { operation = a.operation; id = w; payload = p } ≡ parts_of s
  unfolding parts_of parts_in
  parts_are {w} {p} e f =
      ap₂ (λ (x : ItemId) (y : ℕ). record { operation = a.operation; id = x; payload = y }) e f
      ∙ sym (ap (λ (x : Option Asked). parts_in x (payload_at s)) h)

-- ---- for those above: the parts that `read_item` answers

pub record PartsShape (b : List ℕ) (a : Asked) : Type 0 where
  pub operation : (parts_of b).operation ≡ a.operation
  pub id : (parts_of b).id ≡ id_of a.id
  pub within : (parts_of b).payload ≤ length b
  pub run : is_run (drop (parts_of b).payload b) ≡ true
  pub payload : tree_of (drop (parts_of b).payload b) ≡ a.payload
  pub short : length a.id ≤ id_most
  pub below : Bytes b → a.operation < 256 ^ 4

pub parts_shape : (b : List ℕ) (a : Asked) → is_run b ≡ true → item_in (tree_of b) ≡ Some a → PartsShape b a
unfolding parts_of parts_in
parts_shape b a r h =
    let f = shape b a r h in
    let w : parts_of b ≡ record { operation = a.operation; id = id_of a.id; payload = payload_at b } = ap (λ (x : Option Asked). parts_in x (payload_at b)) h in
    let at : (parts_of b).payload ≡ payload_at b = ap (λ (x : ItemParts). x.payload) w in
    record {
      operation = ap (λ (x : ItemParts). x.operation) w;
      id = ap (λ (x : ItemParts). x.id) w;
      within = (let q = f.past in rw at q);
      run = ap (λ (x : ℕ). is_run (drop x b)) at ∙ f.run;
      payload = ap (λ (x : ℕ). tree_of (drop x b)) at ∙ f.payload;
      short = f.short;
      below = f.below;
    }
