-- The frame that a request's bytes stand for, by what the readers answer, and the other way: where an accepted request's batch items stand.
-- Assumes nothing.
use mathlib.Core.Path.{◌≡◌, refl, sym, ap, ap₂, ◌∙◌}
use Prim.Native.Nat.{ℕ, ◌+◌, ◌-◌, ◌≤◌}
use native.Mathlib.Omega.{arith}
use mathlib.Core.Logic.{⊎_elim}
use mathlib.Core.Bool.{true, false, not, ◌&&◌, ◌||◌, false≢true}
use Rattle.std.specs.Prelude.{Option, None, Some}
use mathlib.Core.List.{List, []}
use lib.ListN.{length, drop}
use lib.Seq.{drop-drop}
use lib.Dec.{leb, eqb}
use borrow.Author.Tests.{eqb-true, eqb-false, eq-eqb, ne_eqb, leb-true}
use Rattle.octets.specs.Maybe.{◌>>=◌, ◌>>◌, is_some}
use Rattle.octets.specs.Octets.{part}
use Rattle.octets.proofs.If.{ifb_true, ifb_false, on_bool}
use Rattle.ttlv.specs.Items.{Items, ended}
use Rattle.ttlv.specs.Parse.{parse, message}
use Rattle.ttlv.specs.Tree.{is_run, tree_of}
use Rattle.fields.specs.Fields.{body_of}
use Rattle.fields.specs.Found.{body_at}
use Rattle.octets.proofs.Bools.{both, or_cases}
use Rattle.ttlv.proofs.Step.{rest}
use Rattle.fields.proofs.Found.{body_first}
use Rattle.ttlv.proofs.One.{one_group}
use Rattle.ttlv.proofs.Message.{message_tree}
use Rattle.fields.proofs.Lift.{ended_lifts, body_rest, body_is_run}
use Rattle.batch_item.specs.Item.{Asked, items_in}
use Rattle.batch_item.specs.Readers.{items_read}
use Rattle.batch_item.proofs.Items.{none_left}
use Rattle.frame.specs.declared.FrameParts.{FrameParts}
use Rattle.frame.specs.Readers.{Framing}
use Rattle.frame.specs.declared.HeaderParts.{HeaderParts}
use Rattle.tags.specs.Tags.{request_header, request_message}
use Rattle.frame.specs.Frame.{Header, Frame, Request, Framed, refused, asked, header_in, frame_in, frame_wrong, is_version, version_ok, batch_most, is_count, count_ok, option_of, option_ok, framing, framed}
use Rattle.frame.specs.Readers.{header_read, body_end, items_at, frame_read, framing_in, framing_of}
use Rattle.octets.proofs.Maybe.{not_some, some_is}
use Rattle.fields.proofs.Runs.{tail, length_tail, run_behind, ended_yes, body_some, body_none}

-- ---- a message, its one structure and what is in it

abbrev IsMessage : List ℕ → Type 0
IsMessage s = is_some (message s) ≡ true

pub message_run : (s : List ℕ) → IsMessage s → is_run s ≡ true
unfolding is_some
message_run s h = go (message s) refl h
  where
    go : (o : Option Items) → message s ≡ o → is_some o ≡ true → is_run s ≡ true
    go None e h = absurd (false≢true h)
    go (Some t) e h = (message_tree s t e).0

module _ (s : List ℕ) (m : IsMessage s) (tag : ℕ) {next : ℕ} (e : body_at s tag ≡ Some next) where
  -- it ends where the message does
  message_ends : next ≡ length s
  message_ends =
      let p = both (eqb next (length s)) (is_some (parse 7 (part s 8 (next - 8)))) (sym (one_group s (body_first s tag e)) ∙ m) in
      eqb-true next (length s) p.0

  pub message_room : 8 ≤ length s
  message_room = let r = body_rest s (message_run s m) tag e in let p = r.past in let w = r.within in omega arith

  inner_bytes : part s 8 (next - 8) ≡ tail s 8
  inner_bytes = ap (λ (n : ℕ). part s 8 (n - 8)) message_ends

  pub inner_run : is_run (tail s 8) ≡ true
  inner_run = ap is_run (sym inner_bytes) ∙ body_is_run s (message_run s m) tag e

header_none : (o : Option Header) → header_read o ≡ None → o ≡ None
unfolding header_read
header_none None h = refl
header_none (Some v) h = let z : ◌≡◌ {A = ℕ} 0 1 = cc in absurd (omega arith)

header_some : (o : Option Header) {a b c d : ℕ} → header_read o ≡ Some (record { major = a; minor = b; option = c; count = d }) → (h : Header) × (o ≡ Some h) × (header_read (Some h) ≡ Some (record { major = a; minor = b; option = c; count = d }))
unfolding header_read
header_some None h = let z : ◌≡◌ {A = ℕ} 0 1 = cc in absurd (omega arith)
header_some (Some v) h = (v, refl, h)

items_none : (o : Option (List Asked)) → items_read o ≡ None → o ≡ None
unfolding items_read
items_none None h = refl
items_none (Some v) h = let z : ◌≡◌ {A = ℕ} 0 1 = cc in absurd (omega arith)

items_some : (o : Option (List Asked)) {n : ℕ} → items_read o ≡ Some n → (v : List Asked) × (o ≡ Some v) × (length v ≡ n)
unfolding items_read
items_some None h = let z : ◌≡◌ {A = ℕ} 0 1 = cc in absurd (omega arith)
items_some (Some v) h = (v, refl, cc)

frame_numbers : (h : Header) (v : List Asked) (at : ℕ) {a b c d : ℕ} → header_read (Some h) ≡ Some (record { major = a; minor = b; option = c; count = d }) → frame_read (Some (record { header = h; items = v })) at ≡ Some (record { major = a; minor = b; option = c; count = d; found = (length v); items = at })
unfolding frame_read header_read
frame_numbers h v at {a} {b} {c} {d} e =
    let x = some_is e in
    let p = ap (λ (x : HeaderParts). x.major) x in
    let q = ap (λ (x : HeaderParts). x.minor) x in
    let r = ap (λ (x : HeaderParts). x.option) x in
    let t = ap (λ (x : HeaderParts). x.count) x in
    rw (p, q, r, t)

-- ---- the frame, one law for each way through

-- the frame by the items of the message
frame_of : Items → Option Frame
frame_of message = do
  (head, batch) ← body_of request_header message
  header ← header_in head
  not (ended batch)
  items ← items_in batch
  Some (record { header = header; items = items })

module _ (s : List ℕ) (m : IsMessage s) where
  pub frame_no_message : body_at s request_message ≡ None → frame_in (tree_of s) ≡ None
  unfolding frame_in ◌>>=◌
  frame_no_message e = rw (body_none s (message_run s m) request_message e)

  module _ {n : ℕ} (e : body_at s request_message ≡ Some n) where
    inside : frame_in (tree_of s) ≡ frame_of (tree_of (tail s 8))
    unfolding frame_in frame_of ◌>>=◌ ◌>>◌
    inside =
        let r = body_rest s (message_run s m) request_message e in
        rw (body_some s (message_run s m) request_message e, ended_yes s (message_run s m) r (message_ends s m request_message e), inner_bytes s m request_message e)

    abbrev i : is_run (tail s 8) ≡ true
    i = inner_run s m request_message e

    pub frame_no_header : body_at (tail s 8) request_header ≡ None → frame_in (tree_of s) ≡ None
    unfolding frame_of ◌>>=◌
    frame_no_header f = inside ∙ rw (body_none (tail s 8) i request_header f)

    module _ {k : ℕ} (f : body_at (tail s 8) request_header ≡ Some k) where
      pub items_at_lem : items_at s ≡ 8 + k
      unfolding items_at body_end
      items_at_lem = rw (sym (rest s 8), f)

      pub batch_run : is_run (tail (tail s 8) k) ≡ true
      batch_run = run_behind (tail s 8) i (body_rest (tail s 8) i request_header f)

      pub batch_bytes : tail (tail s 8) k ≡ drop (items_at s) s
      batch_bytes = rest (tail s 8) k ∙ ap (drop k) (rest s 8) ∙ drop-drop k 8 s ∙ ap (λ (x : ℕ). drop x s) (sym items_at_lem)

      -- whether anything is in the batch
      is_ended : length (tail (tail s 8) k) ≡ 0 → ended (tree_of (tail (tail s 8) k)) ≡ true
      is_ended x = ended_lifts (tail (tail s 8) k) batch_run ∙ eq-eqb (length (tail (tail s 8) k)) 0 x

      not_ended : (length (tail (tail s 8) k) ≡ 0 → ⊥) → ended (tree_of (tail (tail s 8) k)) ≡ false
      not_ended x = ended_lifts (tail (tail s 8) k) batch_run ∙ ne_eqb (length (tail (tail s 8) k)) 0 x

      abbrev head : Option Header
      head = header_in (tree_of (part (tail s 8) 8 (k - 8)))

      pub frame_bad_header : header_read head ≡ None → frame_in (tree_of s) ≡ None
      unfolding frame_of ◌>>=◌
      frame_bad_header g = inside ∙ rw (body_some (tail s 8) i request_header f, header_none head g)

      module _ {a b c d : ℕ} (g : header_read head ≡ Some (record { major = a; minor = b; option = c; count = d })) where
        pub frame_empty : ended (tree_of (tail (tail s 8) k)) ≡ true → frame_in (tree_of s) ≡ None
        unfolding frame_of ◌>>=◌ ◌>>◌
        frame_empty y =
            inside ∙ rw (body_some (tail s 8) i request_header f, (header_some head g).1, y)

        module _ (not_empty : ended (tree_of (tail (tail s 8) k)) ≡ false) where
          pub frame_bad_items : items_read (items_in (tree_of (tail (tail s 8) k))) ≡ None → frame_in (tree_of s) ≡ None
          unfolding frame_of ◌>>=◌ ◌>>◌
          frame_bad_items q = inside ∙ rw (body_some (tail s 8) i request_header f, (header_some head g).1, not_empty, items_none (items_in (tree_of (tail (tail s 8) k))) q)

          frame_some : {h : Header} {v : List Asked} → head ≡ Some h → items_in (tree_of (tail (tail s 8) k)) ≡ Some v → frame_in (tree_of s) ≡ Some (record { header = h; items = v })
          unfolding frame_of ◌>>=◌ ◌>>◌
          frame_some p q = inside ∙ rw (body_some (tail s 8) i request_header f, p, not_empty, q)

          pub frame_is : {n : ℕ} → items_read (items_in (tree_of (tail (tail s 8) k))) ≡ Some n → frame_read (frame_in (tree_of s)) (items_at s) ≡ Some (record { major = a; minor = b; option = c; count = d; found = n; items = (8 + k) })
          frame_is {n} q =
              let p = items_some (items_in (tree_of (tail (tail s 8) k))) q in
              ap₂ frame_read (frame_some (header_some head g).1 p.1) items_at_lem
              ∙ frame_numbers (header_some head g).0 p.0 (8 + k) (header_some head g).2
              ∙ ap (λ (x : ℕ). Some (record { major = a; minor = b; option = c; count = d; found = x; items = (8 + k) })) p.2

-- ---- the other way: where the batch items of an accepted request stand

-- the batch items of f stand in s from `items_at s` on
record FrameShape (s : List ℕ) (f : Frame) : Type 0 where
  pub run : is_run (drop (items_at s) s) ≡ true
  pub items : items_in (tree_of (drop (items_at s) s)) ≡ Some f.items
  pub some_item : length (drop (items_at s) s) ≡ 0 → ⊥
  pub within : items_at s ≤ length s

frame_shape : (s : List ℕ) (f : Frame) → IsMessage s → frame_in (tree_of s) ≡ Some f → FrameShape s f
frame_shape s f m h = outer (body_at s request_message) refl
  where
    batch : {n k a b c d : ℕ} (e : body_at s request_message ≡ Some n) (g : body_at (tail s 8) request_header ≡ Some k)
        → header_read (header_in (tree_of (part (tail s 8) 8 (k - 8)))) ≡ Some (record { major = a; minor = b; option = c; count = d }) → (length (tail (tail s 8) k) ≡ 0 → ⊥)
        → (o : Option (List Asked)) → items_in (tree_of (tail (tail s 8) k)) ≡ o → FrameShape s f
    batch e g q x None r = unfold items_read in absurd (not_some (sym (frame_bad_items s m e g q (not_ended s m e g x) (ap items_read r)) ∙ h))
    batch {k} e g q x (Some v) r =
        let b = batch_bytes s m e g in
        let w = body_rest (tail s 8) (inner_run s m request_message e) request_header g in
        let within8 = w.within in
        let room8 = message_room s m request_message e in
        let l = length_tail s 8 in
        let at = items_at_lem s m e g in
        let is = some_is (sym (frame_some s m e g q (not_ended s m e g x) (header_some (header_in (tree_of (part (tail s 8) 8 (k - 8)))) q).1 r) ∙ h) in
        record {
          run = ap is_run (sym b) ∙ batch_run s m e g;
          items = ap (λ (y : List ℕ). items_in (tree_of y)) (sym b) ∙ r ∙ ap (λ (y : Frame). Some y.items) is;
          some_item = λ z. x (ap length b ∙ z);
          within = omega arith;
        }

    filled : {n k a b c d : ℕ} (e : body_at s request_message ≡ Some n) (g : body_at (tail s 8) request_header ≡ Some k)
        → header_read (header_in (tree_of (part (tail s 8) 8 (k - 8)))) ≡ Some (record { major = a; minor = b; option = c; count = d }) → FrameShape s f
    filled {k} e g q =
        on_bool (eqb (length (tail (tail s 8) k)) 0)
        (λ z. absurd (not_some (sym (frame_empty s m e g q (is_ended s m e g (eqb-true (length (tail (tail s 8) k)) 0 z))) ∙ h)))
        (λ z. batch e g q (eqb-false (length (tail (tail s 8) k)) 0 z) (items_in (tree_of (tail (tail s 8) k))) refl)

    headed : {n k : ℕ} (e : body_at s request_message ≡ Some n) (g : body_at (tail s 8) request_header ≡ Some k)
        → (r : Option HeaderParts) → header_read (header_in (tree_of (part (tail s 8) 8 (k - 8)))) ≡ r → FrameShape s f
    headed e g None q = absurd (not_some (sym (frame_bad_header s m e g q) ∙ h))
    headed e g (Some r) q = filled e g q

    inner : {n : ℕ} (e : body_at s request_message ≡ Some n) (b : Option ℕ) → body_at (tail s 8) request_header ≡ b → FrameShape s f
    inner e None g = absurd (not_some (sym (frame_no_header s m e g) ∙ h))
    inner e (Some k) g = headed e g (header_read (header_in (tree_of (part (tail s 8) 8 (k - 8))))) refl

    outer : (b : Option ℕ) → body_at s request_message ≡ b → FrameShape s f
    outer None e = absurd (not_some (sym (frame_no_message s m e) ∙ h))
    outer (Some n) e = inner e (body_at (tail s 8) request_header) refl

-- ---- refusals 7 to 9, in order

module _ (f : Frame) where
  pub other_version : version_ok f.header ≡ false → framing (Some f) ≡ refused 7
  unfolding framing
  other_version v = ifb_true _ _ _ (ap not v)

  module _ (v : version_ok f.header ≡ true) where
    pub other_count : count_ok f ≡ false → framing (Some f) ≡ refused 8
    unfolding framing
    other_count c = ifb_false _ _ _ (ap not v) ∙ ifb_true _ _ _ (ap not c)

    module _ (c : count_ok f ≡ true) where
      pub other_option : option_ok (option_of f.header.option) ≡ false → framing (Some f) ≡ refused 9
      unfolding framing
      other_option o = ifb_false _ _ _ (ap not v) ∙ ifb_false _ _ _ (ap not c) ∙ ifb_true _ _ _ (ap not o)

      pub accepted : option_ok (option_of f.header.option) ≡ true → framing (Some f) ≡ asked (record { option = option_of f.header.option; items = f.items })
      unfolding framing
      accepted o = ifb_false _ _ _ (ap not v) ∙ ifb_false _ _ _ (ap not c) ∙ ifb_false _ _ _ (ap not o)

-- an accepted request has a frame, with its items: no more than 16, and an option that there is
record Accepted (o : Option Frame) (r : Request) : Type 0 where
  pub frame : Frame
  pub there : o ≡ Some frame
  pub items : frame.items ≡ r.items
  pub few : length r.items ≤ batch_most
  pub known : option_ok r.option ≡ true

few_items : (f : Frame) → count_ok f ≡ true → length f.items ≤ batch_most
few_items f c =
    let n = f.header.count in
    let p = both (leb 1 n && leb n batch_most) (eqb n (length f.items)) c in
    let q = leb-true n batch_most (both (leb 1 n) (leb n batch_most) p.0).1 in
    let e = eqb-true n (length f.items) p.1 in
    omega arith

accepted_frame : (o : Option Frame) (r : Request) → framing o ≡ asked r → Accepted o r
accepted_frame None r h = unfold framing in (let z : ◌≡◌ {A = ℕ} 0 1 = cc in absurd (omega arith))
accepted_frame (Some f) r h =
    on_bool (version_ok f.header)
    (λ v. on_bool (count_ok f)
    (λ c. on_bool (option_ok (option_of f.header.option))
    (λ o. let e = sym (accepted f v c o) ∙ h in
    let i : f.items ≡ r.items = items e in
    record { frame = f; there = refl; items = i; few = rw i at (few_items f c); known = ap option_ok (sym (option e)) ∙ o })
    (λ o. absurd (clash (sym (other_option f v c o) ∙ h))))
    (λ c. absurd (clash (sym (other_count f v c) ∙ h))))
    (λ v. absurd (clash (sym (other_version f v) ∙ h)))
  where
    clash : {n : ℕ} → refused n ≡ asked r → ⊥
    clash e = let z : ◌≡◌ {A = ℕ} 0 1 = cc in omega arith

    items : {p : Request} → asked p ≡ asked r → p.items ≡ r.items
    items e = cc

    option : {p : Request} → asked p ≡ asked r → p.option ≡ r.option
    option e = cc

-- where the batch items of an accepted request stand: they are a run of batch items, not empty, and reach to the end
pub record BatchShape (s : List ℕ) (r : Request) : Type 0 where
  pub run : is_run (drop (framing_of s).items s) ≡ true
  pub items : items_in (tree_of (drop (framing_of s).items s)) ≡ Some r.items
  pub some_item : r.items ≡ [] → ⊥
  pub within : (framing_of s).items ≤ length s
  pub number : (framing_of s).number ≡ 0
  pub option : (framing_of s).option ≡ r.option
  pub few : length r.items ≤ batch_most
  pub known : option_ok r.option ≡ true

some_message : (s : List ℕ) (t : Items) → message s ≡ Some t → IsMessage s
unfolding is_some
some_message s t h = rw h

taken_as : (s : List ℕ) (r : Request) → framed (tree_of s) ≡ asked r → framing_of s ≡ record { number = 0; option = r.option; items = items_at s }
unfolding framing_of framing_in
taken_as s r h = rw h

pub batch_shape : (s : List ℕ) (t : Items) (r : Request) → message s ≡ Some t → framed t ≡ asked r → BatchShape s r
unfolding framed
batch_shape s t r h e =
    let m = some_message s t h in
    let u = message_tree s t h in
    let k : framed (tree_of s) ≡ asked r = ap framed u.1 ∙ e in
    let x = accepted_frame (frame_in (tree_of s)) r k in
    let f = frame_shape s x.frame m x.there in
    let w = taken_as s r k in
    let at : (framing_of s).items ≡ items_at s = ap (λ (y : Framing). y.items) w in
    record {
      run = ap (λ (y : ℕ). is_run (drop y s)) at ∙ f.run;
      items = ap (λ (y : ℕ). items_in (tree_of (drop y s))) at ∙ f.items ∙ ap Some x.items;
      some_item = λ z. f.some_item (ap length (none_left (drop (items_at s) s) f.run (f.items ∙ ap Some (x.items ∙ z))));
      within = (let b = f.within in omega arith);
      number = ap (λ (y : Framing). y.number) w;
      option = ap (λ (y : Framing). y.option) w;
      few = x.few;
      known = x.known;
    }

-- ---- what the reader's answer says, and how it is taken

-- the frame that an answer tells of
pub record Told (o : Option Frame) (at a b c d n x : ℕ) : Type 0 where
  pub frame : Frame
  pub there : o ≡ Some frame
  pub version : version_ok frame.header ≡ is_version a b
  pub counts : count_ok frame ≡ is_count d n
  pub option : option_of frame.header.option ≡ c
  pub start : at ≡ x

pub told : (o : Option Frame) (at : ℕ) {a b c d n x : ℕ} → frame_read o at ≡ Some (record { major = a; minor = b; option = c; count = d; found = n; items = x }) → Told o at a b c d n x
unfolding frame_read
told None at h = let z : ◌≡◌ {A = ℕ} 0 1 = cc in absurd (omega arith)
told (Some f) at {a} {b} {c} {d} {n} {x} h =
    let e = some_is h in
    let p = ap (λ (y : FrameParts). y.major) e in
    let q = ap (λ (y : FrameParts). y.minor) e in
    let r = ap (λ (y : FrameParts). y.count) e in
    let t = ap (λ (y : FrameParts). y.found) e in
    record { frame = f; there = refl; version = ap₂ is_version p q; counts = ap₂ is_count r t; option = ap (λ (y : FrameParts). y.option) e; start = ap (λ (y : FrameParts). y.items) e }

pub taken_6 : (o : Option Frame) (at : ℕ) → frame_read o at ≡ None → framing_in (framing o) at ≡ framing_in (refused frame_wrong) 0
unfolding frame_read framing framing_in
taken_6 None at h = refl
taken_6 (Some f) at h = let z : ◌≡◌ {A = ℕ} 0 1 = cc in absurd (omega arith)

module _ (o : Option Frame) (at : ℕ) {a b c d n x : ℕ} (t : Told o at a b c d n x) where
  by_framing : {k : Framed} → framing (Some t.frame) ≡ k → framing_in (framing o) at ≡ framing_in k at
  by_framing e = ap (λ (y : Option Frame). framing_in (framing y) at) t.there ∙ ap (λ (y : Framed). framing_in y at) e

  pub taken_7 : is_version a b ≡ false → framing_in (framing o) at ≡ framing_in (refused 7) 0
  unfolding framing_in
  taken_7 v = by_framing (other_version t.frame (t.version ∙ v))

  module _ (v : is_version a b ≡ true) where
    pub taken_8 : is_count d n ≡ false → framing_in (framing o) at ≡ framing_in (refused 8) 0
    unfolding framing_in
    taken_8 k = by_framing (other_count t.frame (t.version ∙ v) (t.counts ∙ k))

    module _ (k : is_count d n ≡ true) where
      pub taken_9 : option_ok c ≡ false → framing_in (framing o) at ≡ framing_in (refused 9) 0
      unfolding framing_in
      taken_9 e = by_framing (other_option t.frame (t.version ∙ v) (t.counts ∙ k) (ap option_ok t.option ∙ e))

      pub taken : option_ok c ≡ true → framing_in (framing o) at ≡ record { number = 0; option = c; items = x }
      unfolding framing_in
      taken e =
          by_framing (accepted t.frame (t.version ∙ v) (t.counts ∙ k) (ap option_ok t.option ∙ e))
          ∙ ap₂ (λ (y z : ℕ). record { number = 0; option = y; items = z }) t.option t.start

-- an option that there is fits 32 bits
pub option_small : (c : ℕ) → option_ok c ≡ true → c ≤ 3
option_small c e =
    ⊎_elim
    (λ p. ⊎_elim (λ q. let z = eqb-true c 1 q in omega arith) (λ q. let z = eqb-true c 2 q in omega arith) (or_cases (eqb c 1) (eqb c 2) p))
    (λ p. let z = eqb-true c 3 p in omega arith)
    (or_cases (eqb c 1 || eqb c 2) (eqb c 3) e)
