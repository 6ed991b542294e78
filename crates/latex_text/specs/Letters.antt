-- The letters of LaTeX (LaTeX2e: An unofficial reference manual, sections "Accents" and "Additional Latin letters").
-- What a letter with an accent is: the canonical composition of Unicode (Unicode Standard Annex 15).
use Rattle.std.specs.Prelude.{ℕ, List, [], ◌∷◌, ◌++◌, codes}
use Rattle.text_model.specs.Texts.{Text}

-- letters with the accents whose commands are signs: each name is that sign and the letter
unfoldable pub sign_accents_names : List Text
sign_accents_names =
    codes "\"a" ∷ codes "\"e" ∷ codes "\"h" ∷ codes "\"i" ∷ codes "\"o" ∷ codes "\"t" ∷ codes "\"u" ∷ codes "\"w" ∷ codes "\"x" ∷
    codes "\"y" ∷ codes "\"A" ∷ codes "\"E" ∷ codes "\"H" ∷ codes "\"I" ∷ codes "\"O" ∷ codes "\"U" ∷ codes "\"W" ∷ codes "\"X" ∷
    codes "\"Y" ∷ codes "'a" ∷ codes "'c" ∷ codes "'e" ∷ codes "'g" ∷ codes "'i" ∷ codes "'k" ∷ codes "'l" ∷ codes "'m" ∷
    codes "'n" ∷ codes "'o" ∷ codes "'p" ∷ codes "'r" ∷ codes "'s" ∷ codes "'u" ∷ codes "'w" ∷ codes "'y" ∷ codes "'z" ∷
    codes "'A" ∷ codes "'C" ∷ codes "'E" ∷ codes "'G" ∷ codes "'I" ∷ codes "'K" ∷ codes "'L" ∷ codes "'M" ∷ codes "'N" ∷
    codes "'O" ∷ codes "'P" ∷ codes "'R" ∷ codes "'S" ∷ codes "'U" ∷ codes "'W" ∷ codes "'Y" ∷ codes "'Z" ∷ codes "`a" ∷
    codes "`e" ∷ codes "`i" ∷ codes "`n" ∷ codes "`o" ∷ codes "`u" ∷ codes "`w" ∷ codes "`y" ∷ codes "`A" ∷ codes "`E" ∷
    codes "`I" ∷ codes "`N" ∷ codes "`O" ∷ codes "`U" ∷ codes "`W" ∷ codes "`Y" ∷ codes "^a" ∷ codes "^c" ∷ codes "^e" ∷
    codes "^g" ∷ codes "^h" ∷ codes "^i" ∷ codes "^j" ∷ codes "^o" ∷ codes "^s" ∷ codes "^u" ∷ codes "^w" ∷ codes "^y" ∷
    codes "^z" ∷ codes "^A" ∷ codes "^C" ∷ codes "^E" ∷ codes "^G" ∷ codes "^H" ∷ codes "^I" ∷ codes "^J" ∷ codes "^O" ∷
    codes "^S" ∷ codes "^U" ∷ codes "^W" ∷ codes "^Y" ∷ codes "^Z" ∷ codes "~a" ∷ codes "~e" ∷ codes "~i" ∷ codes "~n" ∷
    codes "~o" ∷ codes "~u" ∷ codes "~v" ∷ codes "~y" ∷ codes "~A" ∷ codes "~E" ∷ codes "~I" ∷ codes "~N" ∷ codes "~O" ∷
    codes "~U" ∷ codes "~V" ∷ codes "~Y" ∷ codes "=a" ∷ codes "=e" ∷ codes "=g" ∷ codes "=i" ∷ codes "=o" ∷ codes "=u" ∷
    codes "=y" ∷ codes "=A" ∷ codes "=E" ∷ codes "=G" ∷ codes "=I" ∷ codes "=O" ∷ codes "=U" ∷ codes "=Y" ∷ codes ".a" ∷
    codes ".b" ∷ codes ".c" ∷ codes ".d" ∷ codes ".e" ∷ codes ".f" ∷ codes ".g" ∷ codes ".h" ∷ codes ".m" ∷ codes ".n" ∷
    codes ".o" ∷ codes ".p" ∷ codes ".r" ∷ codes ".s" ∷ codes ".t" ∷ codes ".w" ∷ codes ".x" ∷ codes ".y" ∷ codes ".z" ∷
    codes ".A" ∷ codes ".B" ∷ codes ".C" ∷ codes ".D" ∷ codes ".E" ∷ codes ".F" ∷ codes ".G" ∷ codes ".H" ∷ codes ".I" ∷
    codes ".M" ∷ codes ".N" ∷ codes ".O" ∷ codes ".P" ∷ codes ".R" ∷ codes ".S" ∷ codes ".T" ∷ codes ".W" ∷ codes ".X" ∷
    codes ".Y" ∷ codes ".Z" ∷ []

-- what they denote, in their order
unfoldable pub sign_accents_characters : List ℕ
sign_accents_characters =
    codes "äëḧïöẗüẅẍÿÄËḦÏÖÜẄẌŸáćéǵíḱĺḿńóṕŕśúẃýźÁĆÉǴÍḰĹḾŃÓṔŔŚÚẂÝŹàèìǹòùẁỳÀÈÌǸÒÙẀỲâĉêĝĥîĵôŝûŵ" ++
    codes "ŷẑÂĈÊĜĤÎĴÔŜÛŴŶẐãẽĩñõũṽỹÃẼĨÑÕŨṼỸāēḡīōūȳĀĒḠĪŌŪȲȧḃċḋėḟġḣṁṅȯṗṙṡṫẇẋẏżȦḂĊḊĖḞĠḢİṀṄȮṖṘṠṪ" ++
    codes "ẆẊẎŻ"

-- the same with the accents whose commands are letters
unfoldable pub letter_accents_names : List Text
letter_accents_names =
    codes "cc" ∷ codes "cd" ∷ codes "ce" ∷ codes "cg" ∷ codes "ch" ∷ codes "ck" ∷ codes "cl" ∷ codes "cn" ∷ codes "cr" ∷
    codes "cs" ∷ codes "ct" ∷ codes "cC" ∷ codes "cD" ∷ codes "cE" ∷ codes "cG" ∷ codes "cH" ∷ codes "cK" ∷ codes "cL" ∷
    codes "cN" ∷ codes "cR" ∷ codes "cS" ∷ codes "cT" ∷ codes "va" ∷ codes "vc" ∷ codes "vd" ∷ codes "ve" ∷ codes "vg" ∷
    codes "vh" ∷ codes "vi" ∷ codes "vj" ∷ codes "vk" ∷ codes "vl" ∷ codes "vn" ∷ codes "vo" ∷ codes "vr" ∷ codes "vs" ∷
    codes "vt" ∷ codes "vu" ∷ codes "vz" ∷ codes "vA" ∷ codes "vC" ∷ codes "vD" ∷ codes "vE" ∷ codes "vG" ∷ codes "vH" ∷
    codes "vI" ∷ codes "vK" ∷ codes "vL" ∷ codes "vN" ∷ codes "vO" ∷ codes "vR" ∷ codes "vS" ∷ codes "vT" ∷ codes "vU" ∷
    codes "vZ" ∷ codes "ua" ∷ codes "ue" ∷ codes "ug" ∷ codes "ui" ∷ codes "uo" ∷ codes "uu" ∷ codes "uA" ∷ codes "uE" ∷
    codes "uG" ∷ codes "uI" ∷ codes "uO" ∷ codes "uU" ∷ codes "Ho" ∷ codes "Hu" ∷ codes "HO" ∷ codes "HU" ∷ codes "ka" ∷
    codes "ke" ∷ codes "ki" ∷ codes "ko" ∷ codes "ku" ∷ codes "kA" ∷ codes "kE" ∷ codes "kI" ∷ codes "kO" ∷ codes "kU" ∷
    codes "ra" ∷ codes "ru" ∷ codes "rw" ∷ codes "ry" ∷ codes "rA" ∷ codes "rU" ∷ codes "da" ∷ codes "db" ∷ codes "dd" ∷
    codes "de" ∷ codes "dh" ∷ codes "di" ∷ codes "dk" ∷ codes "dl" ∷ codes "dm" ∷ codes "dn" ∷ codes "do" ∷ codes "dr" ∷
    codes "ds" ∷ codes "dt" ∷ codes "du" ∷ codes "dv" ∷ codes "dw" ∷ codes "dy" ∷ codes "dz" ∷ codes "dA" ∷ codes "dB" ∷
    codes "dD" ∷ codes "dE" ∷ codes "dH" ∷ codes "dI" ∷ codes "dK" ∷ codes "dL" ∷ codes "dM" ∷ codes "dN" ∷ codes "dO" ∷
    codes "dR" ∷ codes "dS" ∷ codes "dT" ∷ codes "dU" ∷ codes "dV" ∷ codes "dW" ∷ codes "dY" ∷ codes "dZ" ∷ codes "bb" ∷
    codes "bd" ∷ codes "bh" ∷ codes "bk" ∷ codes "bl" ∷ codes "bn" ∷ codes "br" ∷ codes "bt" ∷ codes "bz" ∷ codes "bB" ∷
    codes "bD" ∷ codes "bK" ∷ codes "bL" ∷ codes "bN" ∷ codes "bR" ∷ codes "bT" ∷ codes "bZ" ∷ []

-- what they denote, in their order
unfoldable pub letter_accents_characters : List ℕ
letter_accents_characters =
    codes "çḑȩģḩķļņŗşţÇḐȨĢḨĶĻŅŖŞŢǎčďěǧȟǐǰǩľňǒřšťǔžǍČĎĚǦȞǏǨĽŇǑŘŠŤǓŽăĕğĭŏŭĂĔĞĬŎŬőűŐŰąęįǫųĄĘĮǪ" ++
    codes "ŲåůẘẙÅŮạḅḍẹḥịḳḷṃṇọṛṣṭụṿẉỵẓẠḄḌẸḤỊḲḶṂṆỌṚṢṬỤṾẈỴẒḇḏẖḵḻṉṟṯẕḆḎḴḺṈṞṮẔ"

-- letters of other alphabets, and those without a dot
unfoldable pub letters_names : List Text
letters_names =
    codes "ss" ∷ codes "SS" ∷ codes "o" ∷ codes "O" ∷ codes "l" ∷ codes "L" ∷ codes "ae" ∷ codes "AE" ∷ codes "oe" ∷
    codes "OE" ∷ codes "aa" ∷ codes "AA" ∷ codes "i" ∷ codes "j" ∷ codes "dh" ∷ codes "DH" ∷ codes "th" ∷ codes "TH" ∷
    codes "dj" ∷ codes "DJ" ∷ codes "ng" ∷ codes "NG" ∷ []

-- what they denote, in their order
unfoldable pub letters_characters : List ℕ
letters_characters =
    codes "ßẞøØłŁæÆœŒåÅıȷðÐþÞđĐŋŊ"
