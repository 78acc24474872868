mod AllAnswers
