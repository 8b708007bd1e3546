-- The text of the module Prelude.
use Rattle.std.specs.Prelude.{ℕ, List, [], ◌∷◌, ◌++◌, codes}

-- lines as one text, each ended by a line feed
abbrev pub ended : List (List ℕ) → List ℕ
ended [] = []
ended (line ∷ lines) = line ++ 10 ∷ ended lines

-- the lines of the module, in order
unfoldable pub prelude_lines : List (List ℕ)
prelude_lines =
    codes "module Prelude where" ∷
    codes "infixr 9 ." ∷
    codes "infixl 7 *, `quot`, `rem`" ∷
    codes "infixl 6 +, -" ∷
    codes "infixr 5 ++, :*:" ∷
    codes "infix 4 ==, /=, <, <=, >, >=" ∷
    codes "infixr 3 &&" ∷
    codes "infixr 2 ||" ∷
    codes "infixr 0 $" ∷
    codes "type String = [Char]" ∷
    codes "data Bool = False | True" ∷
    codes "data Maybe a = Nothing | Just a" ∷
    codes "data Either a b = Left a | Right b" ∷
    codes "data Unit = Unit" ∷
    codes "data Sum a b = Inl a | Inr b" ∷
    codes "data Prod a b = a :*: b" ∷
    codes "newtype Con a = Con a" ∷
    codes "data ConDescr = ConDescr [Char] Int" ∷
    codes "conName :: ConDescr -> [Char]" ∷
    codes "conName (ConDescr n _) = n" ∷
    codes "conArity :: ConDescr -> Int" ∷
    codes "conArity (ConDescr _ k) = k" ∷
    codes "id :: a -> a" ∷
    codes "id x = x" ∷
    codes "const :: a -> b -> a" ∷
    codes "const x _ = x" ∷
    codes "flip :: (a -> b -> c) -> b -> a -> c" ∷
    codes "flip f x y = f y x" ∷
    codes "(.) :: (b -> c) -> (a -> b) -> a -> c" ∷
    codes "(f . g) x = f (g x)" ∷
    codes "($) :: (a -> b) -> a -> b" ∷
    codes "f $ x = f x" ∷
    codes "not :: Bool -> Bool" ∷
    codes "not True = False" ∷
    codes "not False = True" ∷
    codes "(&&), (||) :: Bool -> Bool -> Bool" ∷
    codes "True && x = x" ∷
    codes "False && _ = False" ∷
    codes "True || _ = True" ∷
    codes "False || x = x" ∷
    codes "otherwise :: Bool" ∷
    codes "otherwise = True" ∷
    codes "(/=), (<=), (>), (>=) :: Int -> Int -> Bool" ∷
    codes "x /= y = not (x == y)" ∷
    codes "x <= y = not (y < x)" ∷
    codes "x > y = y < x" ∷
    codes "x >= y = not (x < y)" ∷
    codes "negate :: Int -> Int" ∷
    codes "negate x = 0 - x" ∷
    codes "fst :: (a, b) -> a" ∷
    codes "fst (x, _) = x" ∷
    codes "snd :: (a, b) -> b" ∷
    codes "snd (_, y) = y" ∷
    codes "(++) :: [a] -> [a] -> [a]" ∷
    codes "[] ++ ys = ys" ∷
    codes "(x : xs) ++ ys = x : (xs ++ ys)" ∷
    codes "map :: (a -> b) -> [a] -> [b]" ∷
    codes "map _ [] = []" ∷
    codes "map f (x : xs) = f x : map f xs" ∷
    codes "filter :: (a -> Bool) -> [a] -> [a]" ∷
    codes "filter _ [] = []" ∷
    codes "filter p (x : xs)" ∷
    codes "  | p x = x : filter p xs" ∷
    codes "  | otherwise = filter p xs" ∷
    codes "foldr :: (a -> b -> b) -> b -> [a] -> b" ∷
    codes "foldr _ z [] = z" ∷
    codes "foldr f z (x : xs) = f x (foldr f z xs)" ∷
    codes "concat :: [[a]] -> [a]" ∷
    codes "concat = foldr (++) []" ∷
    codes "length :: [a] -> Int" ∷
    codes "length [] = 0" ∷
    codes "length (_ : xs) = 1 + length xs" ∷
    codes "maybe :: b -> (a -> b) -> Maybe a -> b" ∷
    codes "maybe z _ Nothing = z" ∷
    codes "maybe _ f (Just x) = f x" ∷
    codes "either :: (a -> c) -> (b -> c) -> Either a b -> c" ∷
    codes "either f _ (Left x) = f x" ∷
    codes "either _ g (Right y) = g y" ∷ []
