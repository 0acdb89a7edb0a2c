-- The words after the program's name.
use Rattle.std.specs.Prelude.{◌≡◌, ℕ, ◌-◌, ◌^◌, ◌==◌, nat_le, if◌then◌else◌, Bool, true, false, not, ◌&&◌, List, [], ◌∷◌, length, codes, Option, Some, None}
use Rattle.px_base.specs.Numbers.{decimal}

-- a word that begins with `-`
abbrev pub is_flag_word : List ℕ → Bool
is_flag_word [] = false
is_flag_word (b ∷ bs) = b == 45

abbrev pub no_flags : List (List ℕ) → Bool
no_flags [] = true
no_flags (w ∷ ws) = not (is_flag_word w) && no_flags ws

-- pass CONFIG ORIGIN SENT [TAG]..., where no word after the first begins with `-`
pub record IsPass (words : List (List ℕ)) (config origin sent : List ℕ) (tags : List (List ℕ)) : Type 0 where
  pub words_are : words ≡ codes "pass" ∷ config ∷ origin ∷ sent ∷ tags
  pub none_is_flag : no_flags (config ∷ origin ∷ sent ∷ tags) ≡ true

-- check CONFIG
pub record IsCheck (words : List (List ℕ)) (config : List ℕ) : Type 0 where
  pub words_are : words ≡ codes "check" ∷ config ∷ []
  pub none_is_flag : no_flags (config ∷ []) ≡ true

-- show CONFIG URL [TAG]..., where no word after the first begins with `-`
pub record IsShow (words : List (List ℕ)) (config url : List ℕ) (tags : List (List ℕ)) : Type 0 where
  pub words_are : words ≡ codes "show" ∷ config ∷ url ∷ tags
  pub none_is_flag : no_flags (config ∷ url ∷ tags) ≡ true

-- a number up to that one, of one to ten digits
abbrev pub number_in_word : ℕ → List ℕ → Option ℕ
number_in_word most word = if nat_le (length word) 10 then decimal most word else None

-- a number from 1 to that one, of one to ten digits
abbrev pub above_none : Option ℕ → Option ℕ
above_none None = None
above_none (Some n) = if n == 0 then None else Some n

abbrev pub count_in_word : ℕ → List ℕ → Option ℕ
count_in_word most word = above_none (number_in_word most word)

abbrev pub behind_workers : Option ℕ → Option ℕ → Option ℕ
behind_workers None most = None
behind_workers (Some workers) most = most

-- [WORKERS [CONNECTIONS]]: at most so many connections are served; without a number there is no end to them
abbrev pub most_of : List (List ℕ) → Option ℕ
most_of [] = Some (2 ^ 64 - 1)
most_of (workers ∷ []) = behind_workers (count_in_word 64 workers) (Some (2 ^ 64 - 1))
most_of (workers ∷ connections ∷ []) = behind_workers (count_in_word 64 workers) (count_in_word 4294967295 connections)
most_of (workers ∷ connections ∷ more ∷ rest) = None

-- [WORKERS [CONNECTIONS]]: so many connections are served at once; without a number 8
abbrev pub workers_of : List (List ℕ) → Option ℕ
workers_of [] = Some 8
workers_of (workers ∷ rest) = count_in_word 64 workers

-- serve CONFIG [WORKERS [CONNECTIONS]], where no word after the first begins with `-`
pub record IsServe (words : List (List ℕ)) (config : List ℕ) (workers most : ℕ) : Type 0 where
  pub counts : List (List ℕ)
  pub words_are : words ≡ codes "serve" ∷ config ∷ counts
  pub workers_is : workers_of counts ≡ Some workers
  pub most_is : most_of counts ≡ Some most
  pub none_is_flag : no_flags (config ∷ counts) ≡ true

-- exercise N
pub record IsExercise (words : List (List ℕ)) (n : ℕ) : Type 0 where
  pub word : List ℕ
  pub words_are : words ≡ codes "exercise" ∷ word ∷ []
  pub number_is : number_in_word 2147483647 word ≡ Some n
