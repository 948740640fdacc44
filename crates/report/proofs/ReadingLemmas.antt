-- A report of what a reader gives. Assumes nothing.
use Rattle.std.proofs.Common.{◌≡◌, ℕ, ◌<◌, List, [], ◌++◌, Some, None, Option, ap, ◌∙◌}
use Rattle.std.proofs.KnownBytes.{Appends-kept, Appends-trans, Consumes-nil, Consumes-trans}
use Rattle.std.specs.Io.KnownBytes.{Appends, Consumes, Keeps}
use Rattle.report.proofs.FeedLemmas.{writes_more, writes_none}
use Rattle.report.specs.declared.feed.Feed.{Feed}
use Rattle.report.specs.Feed.{EndsInput, IsFeedOf, ReadsAll, ReadsPiece, ReportsAll, TakesBytes}

-- what was kept and then grew has grown
pub kept_appends : (a b c : Option (List ℕ)) (bs : List ℕ) → Keeps a b → Appends b c bs → Appends a c bs
kept_appends None b c bs kept grown = tt
kept_appends (Some xs) None c bs kept grown = absurd kept
kept_appends (Some xs) (Some ys) None bs kept grown = absurd grown
kept_appends (Some xs) (Some ys) (Some zs) bs kept grown = grown ∙ ap (λ (v : List ℕ). v ++ bs) kept

pub writes_after : (bs : List ℕ) (f g : Feed) (a b c : Option (List ℕ)) → Keeps a b → TakesBytes bs f g b c → TakesBytes bs f g a c
writes_after bs f g a b c kept writes bytes text run = let done = writes bytes text run in (done.0, done.1, kept_appends a b c done.0 kept done.2)

-- the bytes so far were given and taken
pub record Halfway (left rest : Option (List ℕ)) (old new : Feed) (before after : Option (List ℕ)) : Type 0 where
  pub bytes : List ℕ
  pub given : Consumes left rest bytes
  pub taken : TakesBytes bytes old new before after

pub at_start : (left : Option (List ℕ)) (f : Feed) (c : Option (List ℕ)) → Halfway left left f f c c
at_start left f c = record { bytes = []; given = Consumes-nil left; taken = writes_none f c }

pub one_piece : {n room : ℕ} (a b c : Option (List ℕ)) (f g h : Feed) (x y z : Option (List ℕ)) → Halfway a b f g x y → ReadsPiece n room b c g h y z → Halfway a c f h x z
one_piece a b c f g h x y z so_far piece = record {
  bytes = so_far.bytes ++ piece.0;
  given = Consumes-trans a b c so_far.bytes piece.0 so_far.given piece.1;
  taken = writes_more so_far.bytes piece.0 f g h x y z so_far.taken piece.3;
}

pub last_piece : {n room : ℕ} (a b c : Option (List ℕ)) (f g h : Feed) (x y z : Option (List ℕ)) → Halfway a b f g x y → ReadsPiece n room b c g h y z → n ≡ 0 → 0 < room → ReadsAll a c f h x z
last_piece a b c f g h x y z so_far piece none room = let all = one_piece a b c f g h x y z so_far piece in (all.bytes, all.given, piece.2 none room, all.taken)

-- read to the end, finished and flushed
pub reported : (left rest : Option (List ℕ)) (f g : Feed) (w x y z : Option (List ℕ)) → IsFeedOf [] [] f → ReadsAll left rest f g w x → EndsInput g x y → Keeps y z → ReportsAll left rest w z
reported left rest f g w x y z start read finish flushed =
    let taken = read.3 [] [] start in
    let done = finish read.0 taken.0 taken.1 in
    (read.0, taken.0 ++ done.0, read.1, read.2, done.1, Appends-kept w y z (taken.0 ++ done.0) (Appends-trans w x y taken.0 done.0 taken.2 done.2) flushed)
