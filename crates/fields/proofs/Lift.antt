-- From bytes to items: the answers of the field readers are the fields of the items that the bytes stand for.
-- Assumes nothing. Each law asks that the bytes are a run of items; the body of a structure and the rest of a run are runs again.
use mathlib.Core.Path.{◌≡◌, refl, sym, ap, ◌∙◌}
use Prim.Native.Nat.{ℕ, ◌-◌, ◌^◌, ◌≤◌, ◌<◌}
use native.Mathlib.Omega.{arith}
use mathlib.Core.Bool.{Bool, true, false, ◌&&◌, ◌||◌}
use Rattle.std.specs.Prelude.{Option, None, Some}
use mathlib.Core.List.{List}
use lib.ListN.{length, take, drop}
use lib.Dec.{eqb}
use borrow.Author.Tests.{eqb-true}
use Rattle.octets.specs.If.{ifb}
use Rattle.octets.specs.Maybe.{◌>>=◌}
use Rattle.octets.specs.Octets.{from_be, part, Bytes}
use Rattle.octets.proofs.If.{ifb_true, ifb_false, on_bool}
use Rattle.octets.proofs.Numbers.{from_be_lt, bytes_take, bytes_drop}
use Rattle.octets.proofs.Stores.{length_part}
use Rattle.ttlv_types.specs.Types.{is_word, is_long, length_ok}
use Rattle.ttlv.specs.Items.{Items, nil, value, group, ended}
use Rattle.ttlv.specs.Parse.{first_of}
use Rattle.ttlv.specs.Tree.{is_run, tree_of}
use Rattle.fields.specs.Fields.{starts_with, bytes_of, body_of, number_of}
use Rattle.fields.specs.Found.{starts_in, starts_at, bytes_in, bytes_at, number_in, number_at, body_in, body_at}
use Rattle.ttlv.specs.declared.First.{First}
use Rattle.ttlv.specs.declared.First.TheVariants.{Bad, End, Value, Group}
use Rattle.ttlv.proofs.Step.{rest}
use Rattle.ttlv.proofs.Eight.{eight_part}
use Rattle.ttlv.proofs.One.{parse_ended}
use Rattle.fields.proofs.Found.{bytes_first, bytes_ends, number_bytes, body_first}
use Rattle.ttlv.proofs.Tree.{Tree, t_end, t_value, t_group, tree, run_parse, Rest, value_rest, group_rest, body_run}

-- ---- what an answer stands for: the field, and the items of the rest

abbrev pub bytes_read : List ℕ → Option (ℕ × ℕ) → Option (List ℕ × Items)
bytes_read s (Some (n, next)) = Some (part s 8 n, tree_of (drop next s))
bytes_read s None = None

abbrev pub number_read : List ℕ → Option (ℕ × ℕ) → Option (ℕ × Items)
number_read s (Some (v, next)) = Some (v, tree_of (drop next s))
number_read s None = None

abbrev pub body_read : List ℕ → Option ℕ → Option (Items × Items)
body_read s (Some next) = Some (tree_of (part s 8 (next - 8)), tree_of (drop next s))
body_read s None = None

-- ---- types whose values are numbers of at most eight bytes

abbrev pub is_number : ℕ → Bool
is_number kind = is_word kind || is_long kind

pub number_length : (kind n : ℕ) → is_number kind ≡ true → length_ok kind n ≡ true → n ≤ 8
unfolding length_ok
number_length kind n h a =
    on_bool (is_word kind)
    (λ w. let e = eqb-true n 4 (sym (ifb_true _ _ _ w) ∙ a) in omega arith)
    (λ w. let l : is_long kind ≡ true = rw w at h in
    let e = eqb-true n 8 (sym (ifb_false _ _ _ w ∙ ifb_true _ _ _ l) ∙ a) in omega arith)

word_length : (kind n : ℕ) → is_word kind ≡ true → length_ok kind n ≡ true → n ≡ 4
unfolding length_ok
word_length kind n w a = eqb-true n 4 (sym (ifb_true _ _ _ w) ∙ a)

-- ---- by the item at the front

starts_at_lem : (s : List ℕ) (tag : ℕ) (t : Items) (f : First) → Tree s t f → starts_with tag t ≡ starts_in tag f
unfolding starts_with starts_in
starts_at_lem s tag nil End (t_end e) = refl
starts_at_lem s tag (value tag2 kind v r) (Value tag3 kind2 n next) (t_value l b a o e) = refl
starts_at_lem s tag (group tag2 i r) (Group tag3 next) (t_group l b i2 e) = refl
starts_at_lem s tag nil Bad x'' = elim x'' [ ]
starts_at_lem s tag nil (Value tag3 kind2 n next) x3 = elim x3 [ ]
starts_at_lem s tag nil (Group tag3 next) x4 = elim x4 [ ]
starts_at_lem s tag (value tag2 kind v r) End x3 = elim x3 [ ]
starts_at_lem s tag (value tag2 kind v r) Bad x4 = elim x4 [ ]
starts_at_lem s tag (value tag2 kind v r) (Group tag3 next) x5 = elim x5 [ ]
starts_at_lem s tag (group tag2 i r) End x4 = elim x4 [ ]
starts_at_lem s tag (group tag2 i r) Bad x5 = elim x5 [ ]
starts_at_lem s tag (group tag2 i r) (Value tag3 kind2 n next) x6 = elim x6 [ ]

bytes_at_lem : (s : List ℕ) (tag kind : ℕ) (t : Items) (f : First) → Tree s t f → bytes_of tag kind t ≡ bytes_read s (bytes_in tag kind f)
unfolding bytes_of bytes_in ifb
bytes_at_lem s tag kind nil End (t_end e) = refl
bytes_at_lem s tag kind (value tag2 kind2 v r) (Value tag3 kind3 m nx) (t_value {tag = tg} {kind = kd} {n} {next} l b a o e) = arm (eqb tg tag && eqb kd kind)
  where
    arm : (c : Bool) → ifb c (Some (part s 8 n, tree_of (drop next s))) None ≡ bytes_read s (ifb c (Some (n, next)) None)
    arm true = refl
    arm false = refl
bytes_at_lem s tag kind (group tag2 i r) (Group tag3 next) (t_group l b i2 e) = refl
bytes_at_lem s tag kind nil Bad x'' = elim x'' [ ]
bytes_at_lem s tag kind nil (Value tag3 kind3 m nx) x3 = elim x3 [ ]
bytes_at_lem s tag kind nil (Group tag3 next) x4 = elim x4 [ ]
bytes_at_lem s tag kind (value tag2 kind2 v r) End x3 = elim x3 [ ]
bytes_at_lem s tag kind (value tag2 kind2 v r) Bad x4 = elim x4 [ ]
bytes_at_lem s tag kind (value tag2 kind2 v r) (Group tag3 next) x5 = elim x5 [ ]
bytes_at_lem s tag kind (group tag2 i r) End x4 = elim x4 [ ]
bytes_at_lem s tag kind (group tag2 i r) Bad x5 = elim x5 [ ]
bytes_at_lem s tag kind (group tag2 i r) (Value tag3 kind3 m nx) x6 = elim x6 [ ]

body_at_lem : (s : List ℕ) (tag : ℕ) (t : Items) (f : First) → Tree s t f → body_of tag t ≡ body_read s (body_in tag f)
unfolding body_of body_in ifb
body_at_lem s tag nil End (t_end e) = refl
body_at_lem s tag (value tag2 kind2 v r) (Value tag3 kind3 m nx) (t_value l b a o e) = refl
body_at_lem s tag (group tag2 i r) (Group tag3 nx) (t_group {tag = tg} {next} l b i2 e) = arm (eqb tg tag)
  where
    arm : (c : Bool) → ifb c (Some (tree_of (part s 8 (next - 8)), tree_of (drop next s))) None ≡ body_read s (ifb c (Some next) None)
    arm true = refl
    arm false = refl
body_at_lem s tag nil Bad x'' = elim x'' [ ]
body_at_lem s tag nil (Value tag3 kind3 m nx) x3 = elim x3 [ ]
body_at_lem s tag nil (Group tag3 nx) x4 = elim x4 [ ]
body_at_lem s tag (value tag2 kind2 v r) End x3 = elim x3 [ ]
body_at_lem s tag (value tag2 kind2 v r) Bad x4 = elim x4 [ ]
body_at_lem s tag (value tag2 kind2 v r) (Group tag3 nx) x5 = elim x5 [ ]
body_at_lem s tag (group tag2 i r) End x4 = elim x4 [ ]
body_at_lem s tag (group tag2 i r) Bad x5 = elim x5 [ ]
body_at_lem s tag (group tag2 i r) (Value tag3 kind3 m nx) x6 = elim x6 [ ]

-- ---- the laws

module _ (s : List ℕ) (run : is_run s ≡ true) where
  pub starts_lifts : (tag : ℕ) → starts_with tag (tree_of s) ≡ starts_at s tag
  unfolding starts_at
  starts_lifts tag = starts_at_lem s tag (tree_of s) (first_of s) (tree s run)

  pub ended_lifts : ended (tree_of s) ≡ eqb (length s) 0
  ended_lifts = parse_ended 7 s (tree_of s) (run_parse s run)

  module _ (tag kind : ℕ) where
    pub bytes_lifts : bytes_of tag kind (tree_of s) ≡ bytes_read s (bytes_at s tag kind)
    unfolding bytes_at
    bytes_lifts = bytes_at_lem s tag kind (tree_of s) (first_of s) (tree s run)

    pub bytes_rest : {n next : ℕ} → bytes_at s tag kind ≡ Some (n, next) → Rest s next
    bytes_rest h = value_rest s run (bytes_first s tag kind h)

    pub number_rest : {v next : ℕ} → number_at s tag kind ≡ Some (v, next) → Rest s next
    number_rest h = bytes_rest (number_bytes s tag kind h).1

    numbers : is_number kind ≡ true → (b : Option (ℕ × ℕ)) → bytes_at s tag kind ≡ b
        → (bytes_read s b >>= λ (v, rest). Some (from_be v, rest)) ≡ number_read s (number_in s b)
    unfolding number_in ◌>>=◌
    numbers k (Some (n, next)) h =
        let e = eight_part n 8 s (number_length kind n k (bytes_ends s tag kind h).2) in
        ap (λ (x : List ℕ). Some (from_be x, tree_of (drop next s))) (sym e)
    numbers k None h = refl

    pub number_lifts : is_number kind ≡ true → number_of tag kind (tree_of s) ≡ number_read s (number_at s tag kind)
    unfolding number_of number_at
    number_lifts k = ap (λ (o : Option (List ℕ × Items)). o >>= λ (v, rest). Some (from_be v, rest)) bytes_lifts ∙ numbers k (bytes_at s tag kind) refl

  module _ (tag : ℕ) where
    pub body_lifts : body_of tag (tree_of s) ≡ body_read s (body_at s tag)
    unfolding body_at
    body_lifts = body_at_lem s tag (tree_of s) (first_of s) (tree s run)

    pub body_rest : {next : ℕ} → body_at s tag ≡ Some next → Rest s next
    body_rest h = group_rest s run (body_first s tag h)

    pub body_is_run : {next : ℕ} → body_at s tag ≡ Some next → is_run (part s 8 (next - 8)) ≡ true
    body_is_run h = body_run s run (body_first s tag h)

-- ---- the rest as code cuts it

pub cut_tree : (s : List ℕ) (next : ℕ) → tree_of (take (length s - next) (drop next s)) ≡ tree_of (drop next s)
cut_tree s next = ap tree_of (rest s next)

-- ---- how great a number is

-- a value of four bytes fits 32 bits: what a cast asks
pub word_below : (s : List ℕ) (tag kind : ℕ) {v next : ℕ} → Bytes s → is_word kind ≡ true → number_at s tag kind ≡ Some (v, next) → v < 256 ^ 4
word_below s tag kind h w e =
    let i = number_bytes s tag kind e in
    let f = bytes_ends s tag kind i.1 in
    let n4 : i.0 ≡ 4 = word_length kind i.0 w f.2 in
    let l : length (part s 8 i.0) ≡ 4 = length_part s 8 i.0 (omega arith) ∙ n4 in
    let b = from_be_lt (part s 8 i.0) (bytes_take i.0 (drop 8 s) (bytes_drop 8 s h)) in
    rw (i.2, eight_part i.0 8 s (omega arith)) (rw l at b)
