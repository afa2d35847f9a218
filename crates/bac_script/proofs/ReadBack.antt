-- A line that is printed for a script is read back as it was meant: words, numbers, peers and octets.
use Rattle.std.proofs.Common.{[], All, ap, append-nil, append_assoc, arith, Bool, codes, decimal, false, filter, get_or}
use Rattle.std.proofs.Common.{length, length-append, List, lit<, nat_lt, None, not, Ok, Option, position, refl}
use Rattle.std.proofs.Common.{Result, Some, sym, true, unwrap_or, ℕ, ◌*◌, ◌++◌, ◌+◌, ◌-◌, ◌<◌, ◌==◌, ◌^◌, ◌∙◌, ◌∷◌, ◌≡◌}
use Rattle.std.proofs.{Common.{◌≢◌, ◌≤◌}, lemmas.{Bool.Decides.nat_tests, Fmt.{decimal_nonempty, digits_decimal}}}
use Rattle.std.proofs.lemmas.{Fmt.{digits_value-decimal, length-decimal-le}, Grind.common_steps}
use Rattle.std.proofs.lemmas.List.{Elements.recursion_from_All, Splits.{slice_split_at, slice_split_none}}
use Rattle.std.proofs.lemmas.{Nat.from_be_bytes-to_be_bytes_4, Str.{is_utf8-from_IsUtf8, IsUtf8-from_ascii}}
use Rattle.std.proofs.lemmas.Str.{Ascii.IsAscii-from_all, Parse.{numerals_by_value, tells_all_ascii_digits}}
use Rattle.std.{proofs.Math.Seq.{drop-append-add, take-append_seam}, specs.Char.{is_ascii_digit, is_ascii_graphic}}
use Rattle.std.specs.{Int.{is_in_range, to_be_bytes, w32}, List.{AllByRecursion, join_with_byte, onto_first}}
use Rattle.{std.specs.{List.slice_split, Str.{all_ascii_digits, is_utf8}}, hex.proofs.HexLemmas.decode_of-encode_lower}
use Rattle.hex.{proofs.HexLemmas.length-encode_with, specs.Hex.{encode_lower, IsBytes, lower_digits}}
use Rattle.{bac_pdu.specs.Station, bac_tsm.specs.{Data, Tick}, bac_text.specs.{longest_line, plain_peer_of, words_of}}
use Rattle.bac_text.specs.{Address.{address_of, cut_at, number_before_dot, short_number, station_at}, Words.is_blank}
use Rattle.{bac_text.specs.Words.{number_up_to, octets_of}, bac_print.proofs.Texts.{address_each, decimal_each}}
use Rattle.bac_print.proofs.Texts.{decimal_graphic, Each, each_all, each_at, each_on, graphic_plain, hex_graphic}
use Rattle.bac_print.{proofs.Texts.{is_plain, peer_graphic}, specs.{peer_text, PeerTexts.address_text}}
use Rattle.bac_script.{proofs.Courses.Chunks.ends_with_feed-push, specs.{Happens, HasNoFeed, LineFault, Remark, Said}}
use Rattle.bac_script.specs.{said, said_by, said_in, Settings, text_of_line}

-- The text is one line, with its only line feed at its end, and has this meaning.
pub record IsRead (is_first : Bool) (line : List ℕ) (what : Said) : Type 0 where
  pub text : List ℕ
  pub no_feed : HasNoFeed text
  pub ended : line ≡ text ++ 10 ∷ []
  pub says : said is_first line ≡ Ok what

-- ---- a plain text of at most 4,096 octets is read as its words

plain_text : (text : List ℕ) → Each is_plain text → length text ≤ longest_line
    → text_of_line (text ++ 10 ∷ []) ≡ Ok text
plain_text = grind (arith, common_steps, nat_tests, each_at, ends_with_feed-push, length-append)

utf8 : (text : List ℕ) → Each is_plain text → is_utf8 text ≡ true
utf8 text plain =
    is_utf8-from_IsUtf8 text (IsUtf8-from_ascii text (IsAscii-from_all text
    (each_all is_plain (λ octet. octet < 128) (λ octet is. grind (arith, nat_tests, is)) text plain)))

pub plain_line : (is_first : Bool) (text line : List ℕ) (what : Said) → Each is_plain text → length text ≤ longest_line
    → said_by is_first (words_of text) ≡ Some what → line ≡ text ++ 10 ∷ [] → IsRead is_first line what
plain_line is_first text line what plain short says ended = record {
  text = text;
  no_feed = recursion_from_All (λ octet. octet ≢ 10) text
      (each_all is_plain (λ octet. octet ≢ 10) (λ octet is. grind (arith, nat_tests, is)) text plain);
  ended = ended;
  says = ap (λ (octets : List ℕ). said is_first octets) ended
      ∙ ap (λ (r : Result (List ℕ) LineFault). said_in is_first r) (plain_text text plain short)
      ∙ rw (utf8 text plain, says) refl;
}

-- ---- words

-- A word has at least one octet, and no blank.
abbrev IsWord : List ℕ → Type 0
IsWord word = Each is_ascii_graphic word × (0 < length word)

unblank : (word : List ℕ) → Each is_ascii_graphic word → All (λ octet. is_blank octet ≡ false) word
unblank word is =
    each_all is_ascii_graphic (λ octet. is_blank octet ≡ false) (λ octet is. grind (arith, nat_tests, is)) word is

words_joined : (words : List (List ℕ)) → AllByRecursion IsWord words → words_of (join_with_byte 32 words) ≡ words
words_joined [] are = refl
words_joined (word ∷ []) ((is, some), _) =
    let cut = slice_split_none is_blank word (unblank word is) in grind (arith, nat_tests, cut, some)
words_joined (word ∷ next ∷ later) ((is, some), are) =
    let cut = slice_split_at is_blank word 32 (join_with_byte 32 (next ∷ later)) (unblank word is) refl in
    let others = words_joined (next ∷ later) are in
    grind (arith, nat_tests, cut, some, others)

joined_plain : (words : List (List ℕ)) → AllByRecursion IsWord words → Each is_plain (join_with_byte 32 words)
joined_plain [] are = refl
joined_plain (word ∷ []) ((is, _), _) = graphic_plain word is
joined_plain (word ∷ next ∷ later) ((is, _), are) =
    each_on is_plain word _ (graphic_plain word is) (joined_plain (next ∷ later) are)

-- A line of these words, with a space between any two of them.
words_line : (is_first : Bool) (words : List (List ℕ)) (line : List ℕ) (what : Said) → AllByRecursion IsWord words
    → length (join_with_byte 32 words) ≤ longest_line → said_by is_first words ≡ Some what
    → line ≡ join_with_byte 32 words ++ 10 ∷ [] → IsRead is_first line what
words_line = grind (arith, plain_line, joined_plain, words_joined)

-- ---- numbers

decimal_word : (n : ℕ) → n < 2 ^ 64 → IsWord (decimal n)
decimal_word n fits = (decimal_graphic n, decimal_nonempty n fits)

long : (n : ℕ) → n < 2 ^ 64 → length (decimal n) ≤ 20
long n fits = length-decimal-le 20 n (lit< tt) (omega (arith, fits)) fits

number_back : (most n : ℕ) → n ≤ most → n < 2 ^ 64 → number_up_to most (decimal n) ≡ Some n
number_back most n within fits =
    let own = numerals_by_value (λ ds. all_ascii_digits ds ≡ true) tells_all_ascii_digits in
    let digits = digits_decimal own n fits in
    let value = digits_value-decimal own n fits in
    let some = decimal_nonempty n fits in
    grind (arith, nat_tests, digits, value, some, within)

-- The line of a time is read as this time.
pub tick_read : (n : ℕ) → n < 2 ^ 64 → IsRead false (codes "tick " ++ (decimal n ++ 10 ∷ [])) (Happens (Tick n))
tick_read n fits =
    words_line false (codes "tick" ∷ decimal n ∷ []) _ (Happens (Tick n))
    ((refl, lit< tt), (decimal_word n fits, tt)) (omega (arith, long n fits))
    (rw (number_back (2 ^ 64 - 1) n (omega (arith, fits)) fits) refl) refl

-- The line of settings is read as these settings.
pub settings_read : (timeout retries : ℕ) → 0 < timeout → timeout < 2 ^ 32 → retries < 256
    → IsRead true (codes "client " ++ (decimal timeout ++ 32 ∷ (decimal retries ++ codes " 0\n")))
    (Settings timeout retries 0)
settings_read timeout retries some fits small =
    let wide : timeout < 2 ^ 64 = omega (arith, fits) in
    let wider : retries < 2 ^ 64 = omega (arith, small) in
    let one = number_back (2 ^ 32 - 1) timeout (omega (arith, fits)) wide in
    let two = number_back 255 retries (omega (arith, small)) wider in
    let positive : nat_lt 0 timeout ≡ true = grind (arith, nat_tests, some) in
    words_line true (codes "client" ∷ decimal timeout ∷ decimal retries ∷ codes "0" ∷ []) _ _
    ((refl, lit< tt), (decimal_word timeout wide, (decimal_word retries wider, ((refl, lit< tt), tt))))
    (omega (arith, long timeout wide, long retries wider, length-append {A = ℕ}))
    (rw (one, two, positive) refl) (simp append_assoc)

-- ---- peers

-- The octet is not this mark.
abbrev differs : ℕ → ℕ → Bool
differs mark octet = not (octet == mark)

place : (mark : ℕ) (xs ys : List ℕ) → Each (differs mark) xs
    → position (λ o. o == mark) (xs ++ mark ∷ ys) ≡ Some (length xs)
place mark [] = grind (arith, nat_tests)
place mark (x ∷ xs) = grind (arith, place mark xs)

cut_there : (mark : ℕ) (xs ys : List ℕ) → Each (differs mark) xs → cut_at mark (xs ++ mark ∷ ys) ≡ Some (xs, ys)
cut_there mark xs ys is =
    rw (place mark xs ys is, take-append_seam xs (mark ∷ ys), drop-append-add xs (mark ∷ ys) 1) refl

digit_differs : (mark octet : ℕ) → is_in_range 48 57 mark ≡ false → is_ascii_digit octet ≡ true
    → differs mark octet ≡ true
digit_differs = grind (arith, nat_tests)

short_back : (digits most n : ℕ) → length (decimal n) ≤ digits → n ≤ most → n < 2 ^ 64
    → short_number digits most (decimal n) ≡ Some n
short_back digits most n few within fits =
    let number = number_back most n within fits in grind (arith, nat_tests, few, number)

three_long : (n : ℕ) → n < 256 → length (decimal n) ≤ 3
three_long n small = length-decimal-le 3 n (lit< tt) (omega (arith, small)) (omega (arith, small))

one_back : (n : ℕ) → n < 256 → short_number 3 255 (decimal n) ≡ Some n
one_back n small = short_back 3 255 n (three_long n small) (omega (arith, small)) (omega (arith, small))

before_dot : (n : ℕ) (rest : List ℕ) → n < 256 → number_before_dot (decimal n ++ 46 ∷ rest) ≡ Some (n, rest)
before_dot = grind (arith, decimal_each, digit_differs, cut_there, one_back)

abbrev dotted : ℕ → ℕ → ℕ → ℕ → List ℕ
dotted a b c d = decimal a ++ 46 ∷ (decimal b ++ 46 ∷ (decimal c ++ 46 ∷ decimal d))

dotted_back : (a b c d : ℕ) → a < 256 → b < 256 → c < 256 → d < 256
    → (address_of (dotted a b c d) ≡ Some (((a * 256 + b) * 256 + c) * 256 + d)) × (length (dotted a b c d) ≤ 15)
dotted_back = grind (arith, before_dot, one_back, three_long, length-append)

address_back : (ip : ℕ) → ip < 2 ^ 32
    → (address_of (address_text ip) ≡ Some ip) × (length (address_text ip) ≤ 15)
address_back ip fits =
    let octets = to_be_bytes w32 ip in
    let (back, short) = dotted_back (get_or octets 0 0) (get_or octets 1 0) (get_or octets 2 0) (get_or octets 3 0)
    (omega (arith, fits)) (omega (arith, fits)) (omega (arith, fits)) (omega (arith, fits)) in
    (back ∙ ap Some (omega (arith, from_be_bytes-to_be_bytes_4 ip fits)), short)

-- A peer without a route.
abbrev pub plain : ℕ → ℕ → Station
plain ip port = record { ip = ip; port = port; route = None }

peer_back : (ip port : ℕ) → ip < 2 ^ 32 → port < 65536
    → (plain_peer_of (peer_text (plain ip port)) ≡ Some (plain ip port)) × (length (peer_text (plain ip port)) ≤ 21)
peer_back ip port fits small =
    let (back, long) = address_back ip fits in
    let wide : port < 2 ^ 64 = omega (arith, small) in
    let five : length (decimal port) ≤ 5 = length-decimal-le 5 port (lit< tt) (omega (arith, small)) wide in
    let number = short_back 5 65535 port five (omega (arith, small)) wide in
    let colon = address_each (differs 58) (λ octet. digit_differs 58 octet refl) refl ip in
    let cut = cut_there 58 (address_text ip) (decimal port) colon in
    let text = address_text ip ++ 58 ∷ decimal port in
    rw append-nil (
      ap (λ (o : Option (List ℕ × List ℕ)). station_at (unwrap_or o (text, codes "47808"))) cut
          ∙ rw (number, back) refl,
      omega (arith, long, five, length-append (address_text ip) (58 ∷ decimal port)),
    )

-- ---- datagrams

octets_back : (xs : List ℕ) → IsBytes xs → 0 < length xs → length xs ≤ 2034 → octets_of (encode_lower xs) ≡ Some xs
octets_back = grind (arith, length-encode_with, decode_of-encode_lower, nat_tests)

-- The line of a datagram is read as this datagram.
pub arrival_read : (ip port : ℕ) (octets : List ℕ) → ip < 2 ^ 32 → port < 65536 → IsBytes octets → 0 < length octets
    → length octets ≤ 2034
    → IsRead false (codes "data " ++ (peer_text (plain ip port) ++ 32 ∷ (encode_lower octets ++ 10 ∷ [])))
    (Happens (Data (plain ip port) octets))
arrival_read ip port octets fits small bytes some few =
    let (back, short) = peer_back ip port fits small in
    let size = length-encode_with lower_digits octets in
    let peer = peer_text (plain ip port) in
    let word : IsWord peer = (peer_graphic ip port, omega (arith, length-append {A = ℕ})) in
    let digits : IsWord (encode_lower octets) = (hex_graphic octets bytes, omega (arith, size, some)) in
    words_line false (codes "data" ∷ peer ∷ encode_lower octets ∷ []) _ _ ((refl, lit< tt), (word, (digits, tt)))
    (omega (arith, short, size, few, length-append peer (32 ∷ encode_lower octets)))
    (rw (back, octets_back octets bytes some few) refl)
    (ap (λ (xs : List ℕ). codes "data " ++ xs) (sym (append_assoc peer (32 ∷ encode_lower octets) (10 ∷ []))))

-- ---- remarks

marked : (parts : List (List ℕ))
    → said_by false (filter (λ word. nat_lt 0 (length word)) (onto_first 35 parts)) ≡ Some Remark
marked = grind (arith, nat_tests)

-- A plain line that begins with # (35) is a remark.
pub remark_read : (more : List ℕ) → Each is_plain more → length (35 ∷ more) ≤ longest_line
    → IsRead false ((35 ∷ more) ++ 10 ∷ []) Remark
remark_read more plain short =
    plain_line false (35 ∷ more) _ Remark plain short (marked (slice_split is_blank more)) refl
