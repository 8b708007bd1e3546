-- A block's parts as they were read: each but the last has a `;` behind it.
use Rattle.std.proofs.Common.{◌≡◌, ℕ, zero, suc, Bool, true, false, not, List, [], ◌∷◌, ◌++◌, map, None, refl, sym, ap, ◌∙◌, subst, cond, nat_lt}
use Rattle.std.proofs.lemmas.List.{length-map}
use Rattle.gh_tree.specs.declared.symbol.Sym.{Sym}
use Rattle.gh_tree.specs.declared.names.BlockMark.{BlockMark}
use Rattle.gh_tree.specs.Print.{Print, flat_all, parted, is_some, block_part}
use Rattle.gh_tree.specs.Print as printed
use Rattle.gh_tree.specs.Read.{Read, ◌>>=◌, taken, many}
use Rattle.gh_tree.proofs.Steps.{bound, some_is, and_is}
use Rattle.gh_tree.proofs.Loops.{many_stops, many_none, step_of, many_step}
use Rattle.gh_tree.proofs.Many.{Taken, AllTaken, many_sound}
use Rattle.gh_reader.proofs.Sound.{SoundAt, built, between3}
use Rattle.gh_parse_exps.specs.Marks.{semis, begins_part, part_ends}
use Rattle.gh_parse_exps.proofs.SoundMarks.{semis_sound}

-- a part with no `;` behind it is followed by no part
pub record PartTaken {A : Type 0} (print : A → Print) (ss : List Sym) (x : A) (rest : List Sym) : Type 0 where
  pub part : Taken print ss x rest
  pub last : (print x).is_parted ≡ false → begins_part rest ≡ false

pub record PartsTaken {A : Type 0} (print : A → Print) (ss : List Sym) (xs : List A) (rest : List Sym) : Type 0 where
  pub parts : AllTaken print ss xs rest
  pub ends : parted (map print xs) ≡ true

-- ---- one part

ended_by : {A : Type 0} (x y : A) (ss rest : List Sym) (some more : Bool) → cond (not some) (cond more None (taken x ss)) (taken x ss) ≡ taken y rest
    → (x ≡ y) × (ss ≡ rest) × (some ≡ false → more ≡ false)
ended_by x y ss rest true more e = let h = some_is x y ss rest e in (h.0, h.1, λ f. absurd (cc))
ended_by x y ss rest false true e = absurd (cc)
ended_by x y ss rest false false e = let h = some_is x y ss rest e in (h.0, h.1, λ f. refl)

ended : {A : Type 0} (ms : List BlockMark) (x y : A) (ss rest : List Sym) → part_ends ms x ss ≡ taken y rest → (x ≡ y) × (ss ≡ rest) × (is_some ms ≡ false → begins_part ss ≡ false)
unfolding part_ends
ended ms x y ss rest e = ended_by x y ss rest (is_some ms) (begins_part ss) e

module _ {P A : Type 0} (part_print : P → Print) (print : A → Print) (part : Read P) (item : P → List BlockMark → A)
    (is : (p : P) (ms : List BlockMark) → print (item p ms) ≡ block_part (part_print p) ms) (sound : SoundAt part_print part) where
  pub part_sound : (ss : List Sym) (x : A) (rest : List Sym) → (part >>= λ p. semis >>= λ ms. part_ends ms (item p ms)) ss ≡ taken x rest → PartTaken print ss x rest
  part_sound ss x rest e =
      let h = bound (part ss) _ x rest e in
      let i = bound (semis h.mid) _ x rest h.then in
      let p = sound ss h.x h.mid h.first in
      let marks = semis_sound h.mid i.x i.mid i.first in
      let last = ended i.x (item h.x i.x) x i.mid rest i.then in
      let flat = between3 ss h.mid (part_print h.x).flat (map printed.block_semi i.x) i.mid p.flat marks in
      let same : print x ≡ block_part (part_print h.x) i.x = ap print (sym last.0) ∙ is h.x i.x in
      record {
        part = built print (block_part (part_print h.x) i.x) ss i.mid (item h.x i.x) x rest (is h.x i.x) (λ t. taken (last.0 t) (last.1 t)) flat p.good;
        last = λ f. ap begins_part (sym last.1) ∙ last.2 (sym (ap (λ (q : Print). q.is_parted) same) ∙ f);
      }

-- ---- many parts

module _ {A : Type 0} (print : A → Print) (item : Read A) (sound : (ss : List Sym) (x : A) (rest : List Sym) → item ss ≡ taken x rest → PartTaken print ss x rest) where
  behind_is : (b : Bool) (n : ℕ) (mid : List Sym) (y : A) (ys : List A) (rest : List Sym) → (b ≡ false → begins_part mid ≡ false) → many begins_part item n mid ≡ taken (y ∷ ys) rest → b ≡ true
  behind_is true n mid y ys rest last e = refl
  behind_is false n mid y ys rest last e =
      let none = some_is [] (y ∷ ys) mid rest (sym (many_stops begins_part item n mid (last refl)) ∙ e) in
      let never : [] ≡ y ∷ ys = none.0 in
      absurd (cc)

  joined : (x : A) (n : ℕ) (mid : List Sym) (xs : List A) (rest : List Sym) → ((print x).is_parted ≡ false → begins_part mid ≡ false) → many begins_part item n mid ≡ taken xs rest → parted (map print xs) ≡ true
      → parted (map print (x ∷ xs)) ≡ true
  joined x n mid [] rest last e so = refl
  joined x n mid (y ∷ ys) rest last e so = and_is (behind_is (print x).is_parted n mid y ys rest last e) so

  step_parted : (n : ℕ) → ((ss : List Sym) (xs : List A) (rest : List Sym) → many begins_part item n ss ≡ taken xs rest → parted (map print xs) ≡ true)
      → (ss : List Sym) (xs : List A) (rest : List Sym) (b : Bool) → step_of begins_part item n ss b ≡ taken xs rest → parted (map print xs) ≡ true
  unfolding step_of
  step_parted n others ss xs rest true e =
      let h = bound (item ss) _ xs rest e in
      let i = bound (many begins_part item n h.mid) _ xs rest h.then in
      let ends = some_is (h.x ∷ i.x) xs i.mid rest i.then in
      let x = sound ss h.x h.mid h.first in
      subst (λ (ys : List A). parted (map print ys) ≡ true) ends.0 (joined h.x n h.mid i.x i.mid x.last i.first (others h.mid i.x i.mid i.first))
  step_parted n others ss xs rest false e =
      let ends = some_is [] xs ss rest e in
      subst (λ (ys : List A). parted (map print ys) ≡ true) ends.0 refl

  many_parted : (n : ℕ) (ss : List Sym) (xs : List A) (rest : List Sym) → many begins_part item n ss ≡ taken xs rest → parted (map print xs) ≡ true
  many_parted zero ss xs rest e =
      let ends = some_is [] xs ss rest (sym (many_none begins_part item ss) ∙ e) in
      subst (λ (ys : List A). parted (map print ys) ≡ true) ends.0 refl
  many_parted (suc n) ss xs rest e = step_parted n (many_parted n) ss xs rest (begins_part ss) (sym (many_step begins_part item n ss) ∙ e)

  pub parts_sound : (n : ℕ) (ss : List Sym) (xs : List A) (rest : List Sym) → many begins_part item n ss ≡ taken xs rest → PartsTaken print ss xs rest
  parts_sound n ss xs rest e = record {
    parts = many_sound print begins_part item (λ ss x rest b e. (sound ss x rest e).part) n ss xs rest e;
    ends = many_parted n ss xs rest e;
  }

-- ---- the whole block

-- the tokens of a block: its `{`, the `;` before its first part, its parts and its `}`
pub block_flat : {A : Type 0} (print : A → Print) (start ss mid rest : List Sym) (a : BlockMark) (ms : List BlockMark) (xs : List A) (b : BlockMark) → start ≡ printed.block_open a ∷ (map printed.block_semi ms ++ ss)
    → ss ≡ flat_all (map print xs) ++ mid → mid ≡ printed.block_close b ∷ rest
    → start ≡ (printed.block_open a ∷ (map printed.block_semi ms ++ (flat_all (map print xs) ++ printed.block_close b ∷ []))) ++ rest
block_flat print start ss mid rest a ms xs b before parts last =
    let more : List Sym = flat_all (map print xs) ++ printed.block_close b ∷ [] in
    let inside : ss ≡ more ++ rest = between3 ss mid (flat_all (map print xs)) (printed.block_close b ∷ []) rest parts last in
    between3 start ss (printed.block_open a ∷ map printed.block_semi ms) more rest before inside

-- the tokens of a block up to its first part
pub block_front : (start mid ss : List Sym) (a : BlockMark) (ms : List BlockMark) → start ≡ printed.block_open a ∷ mid → mid ≡ map printed.block_semi ms ++ ss → start ≡ printed.block_open a ∷ (map printed.block_semi ms ++ ss)
block_front start mid ss a ms first marks = first ∙ ap (λ us. printed.block_open a ∷ us) marks

pub some_parts : {A B : Type 0} (f : A → B) (xs : List A) → is_some xs ≡ true → is_some (map f xs) ≡ true
some_parts f xs e = ap (λ n. nat_lt 0 n) (length-map xs f) ∙ e
